use Rattle.exchange_graph.proofs.Names.{◌≡◌, ◌∙◌, ap, bytes_eq, Text, Exchange, same_place}
use Rattle.std.proofs.Common.{position}
use Rattle.exchange_graph.proofs.Indices.{within_if_some}
use Rattle.exchange_graph.proofs.Naming.{named_if_some, absent_if_none}
use Rattle.exchange_graph.proofs.topologies.Topology.exchange_at.Goals as goal

pub returns-clause-index : goal.returns-clause-index
returns-clause-index c =
    rw (← c.self.view_is)
    (c.index_of.ensures.index ∙ ap (position (λ (k : Text). bytes_eq c.args.name.now k)) c.self.invariant.exchanges ∙ same_place (λ (x : Exchange). x.name) c.self.inside.exchanges.items c.args.name.now)

pub returns-clause-named : goal.returns-clause-named
returns-clause-named c =
    let at : c.index_of.result ≡ position (λ (x : Exchange). bytes_eq x.name c.args.name.now) c.self.inside.exchanges.items =
    c.index_of.ensures.index ∙ ap (position (λ (k : Text). bytes_eq c.args.name.now k)) c.self.invariant.exchanges ∙ same_place (λ (x : Exchange). x.name) c.self.inside.exchanges.items c.args.name.now in
    rw (← c.self.view_is)
    (named_if_some (λ (x : Exchange). x.name) c.self.inside.exchanges.items c.args.name.now c.index_of.result at (within_if_some (λ (x : Exchange). bytes_eq x.name c.args.name.now) c.self.inside.exchanges.items c.index_of.result at))

pub returns-clause-absent : goal.returns-clause-absent
returns-clause-absent c =
    let at : c.index_of.result ≡ position (λ (x : Exchange). bytes_eq x.name c.args.name.now) c.self.inside.exchanges.items =
    c.index_of.ensures.index ∙ ap (position (λ (k : Text). bytes_eq c.args.name.now k)) c.self.invariant.exchanges ∙ same_place (λ (x : Exchange). x.name) c.self.inside.exchanges.items c.args.name.now in
    rw (← c.self.view_is) (absent_if_none (λ (x : Exchange). x.name) c.self.inside.exchanges.items c.args.name.now c.index_of.result at)
