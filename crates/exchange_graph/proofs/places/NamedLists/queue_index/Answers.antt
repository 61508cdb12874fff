use Rattle.exchange_graph.proofs.Names.{◌∙◌, ap, bytes_eq, Text, DeclaredQueue, same_place}
use Rattle.std.proofs.Common.{position}
use Rattle.exchange_graph.proofs.Indices.{place_if_some, place_if_none}
use Rattle.exchange_graph.proofs.places.NamedLists.queue_index.Goals as goal

pub returns-in-Some : goal.returns-in-Some
returns-in-Some c =
    let at = c.index_of.ensures.index ∙ ap (position (λ (k : Text). bytes_eq c.args.name.now k)) c.self.invariant.each_queue ∙ same_place (λ (q : DeclaredQueue). q.name) c.self.inside.queues.now c.args.name.now in
    rw (← c.self.view_is) (place_if_some (λ (q : DeclaredQueue). bytes_eq q.name c.args.name.now) c.self.inside.queues.now c.in-Some.place (cc))

pub returns-in-None : goal.returns-in-None
returns-in-None c =
    let at = c.index_of.ensures.index ∙ ap (position (λ (k : Text). bytes_eq c.args.name.now k)) c.self.invariant.each_queue ∙ same_place (λ (q : DeclaredQueue). q.name) c.self.inside.queues.now c.args.name.now in
    rw (← c.self.view_is) (place_if_none (λ (q : DeclaredQueue). bytes_eq q.name c.args.name.now) c.self.inside.queues.now (cc))
