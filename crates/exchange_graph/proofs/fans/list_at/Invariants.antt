use Rattle.exchange_graph.proofs.Names.{◌≡◌, ◌++◌, drop, ends_at}
use Rattle.exchange_graph.proofs.fans.list_at.Given as goal

abbrev pub invariant-loop-place : goal.invariant-loop-place
invariant-loop-place l = l.ends.items ++ ends_at l.ways (drop l.place-index l.places) ≡ ends_at l.ways l.places
