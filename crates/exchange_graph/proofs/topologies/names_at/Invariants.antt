use Rattle.exchange_graph.proofs.Names.{◌≡◌, ◌++◌, drop, exchange_names, names_at}
use Rattle.exchange_graph.proofs.topologies.names_at.Given as goal

abbrev pub invariant-loop-place : goal.invariant-loop-place
invariant-loop-place l = l.names.items ++ names_at (exchange_names l.exchanges) (drop l.place-index l.places) ≡ names_at (exchange_names l.exchanges) l.places
