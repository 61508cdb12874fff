use Rattle.exchange_graph.proofs.Names.{◌≡◌, ◌∙◌, ap, bytes_eq, Text, DeclaredQueue, same_place}
use Rattle.std.proofs.Common.{position}
use Rattle.exchange_graph.proofs.Indices.{within_if_some}
use Rattle.exchange_graph.proofs.Naming.{named_if_some, absent_if_none}
use Rattle.exchange_graph.proofs.topologies.Topology.queue_at.Goals as goal

pub returns-clause-index : goal.returns-clause-index
returns-clause-index c =
    rw (← c.self.view_is)
    (c.index_of.ensures.index ∙ ap (position (λ (k : Text). bytes_eq c.args.name.now k)) c.self.invariant.queues ∙ same_place (λ (q : DeclaredQueue). q.name) c.self.inside.queues.items c.args.name.now)

pub returns-clause-named : goal.returns-clause-named
returns-clause-named c =
    let at : c.index_of.result ≡ position (λ (q : DeclaredQueue). bytes_eq q.name c.args.name.now) c.self.inside.queues.items =
    c.index_of.ensures.index ∙ ap (position (λ (k : Text). bytes_eq c.args.name.now k)) c.self.invariant.queues ∙ same_place (λ (q : DeclaredQueue). q.name) c.self.inside.queues.items c.args.name.now in
    rw (← c.self.view_is)
    (named_if_some (λ (q : DeclaredQueue). q.name) c.self.inside.queues.items c.args.name.now c.index_of.result at (within_if_some (λ (q : DeclaredQueue). bytes_eq q.name c.args.name.now) c.self.inside.queues.items c.index_of.result at))

pub returns-clause-absent : goal.returns-clause-absent
returns-clause-absent c =
    let at : c.index_of.result ≡ position (λ (q : DeclaredQueue). bytes_eq q.name c.args.name.now) c.self.inside.queues.items =
    c.index_of.ensures.index ∙ ap (position (λ (k : Text). bytes_eq c.args.name.now k)) c.self.invariant.queues ∙ same_place (λ (q : DeclaredQueue). q.name) c.self.inside.queues.items c.args.name.now in
    rw (← c.self.view_is) (absent_if_none (λ (q : DeclaredQueue). q.name) c.self.inside.queues.items c.args.name.now c.index_of.result at)
