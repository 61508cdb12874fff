use Rattle.state_routes.proofs.Names.{◌∙◌, List, length, ap, bytes_eq, Exchange}
use Rattle.exchange_graph.proofs.Indices.{place_if_some, place_if_none}
use Rattle.state_routes.proofs.nodes.exchange_index.Goals as goal

pub returns-in-Some-clause-is : goal.returns-in-Some-clause-is
returns-in-Some-clause-is c = place_if_some (λ (x : Exchange). bytes_eq x.name c.args.name.now) c.args.topology.now.exchanges c.in-Some.place (cc)

pub returns-in-None-clause-is : goal.returns-in-None-clause-is
returns-in-None-clause-is c = ap (λ (xs : List Exchange). length xs) c.exchanges.ensures ∙ place_if_none (λ (x : Exchange). bytes_eq x.name c.args.name.now) c.args.topology.now.exchanges (cc)
