use Rattle.exchange_graph.proofs.Names.{◌∙◌, ap, bytes_eq, Text, Exchange, same_place}
use Rattle.std.proofs.Common.{position}
use Rattle.exchange_graph.proofs.Indices.{place_if_some, place_if_none}
use Rattle.exchange_graph.proofs.places.NamedLists.exchange_index.Goals as goal

pub returns-in-Some : goal.returns-in-Some
returns-in-Some c =
    let at = c.index_of.ensures.index ∙ ap (position (λ (k : Text). bytes_eq c.args.name.now k)) c.self.invariant.each_exchange ∙ same_place (λ (x : Exchange). x.name) c.self.inside.exchanges.now c.args.name.now in
    rw (← c.self.view_is) (place_if_some (λ (x : Exchange). bytes_eq x.name c.args.name.now) c.self.inside.exchanges.now c.in-Some.place (cc))

pub returns-in-None : goal.returns-in-None
returns-in-None c =
    let at = c.index_of.ensures.index ∙ ap (position (λ (k : Text). bytes_eq c.args.name.now k)) c.self.invariant.each_exchange ∙ same_place (λ (x : Exchange). x.name) c.self.inside.exchanges.now c.args.name.now in
    rw (← c.self.view_is) (place_if_none (λ (x : Exchange). bytes_eq x.name c.args.name.now) c.self.inside.exchanges.now (cc))
