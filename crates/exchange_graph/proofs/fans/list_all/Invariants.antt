use Rattle.exchange_graph.proofs.Names.{◌≡◌, ◌++◌, drop, ends_of}
use Rattle.exchange_graph.proofs.fans.list_all.Given as goal

abbrev pub invariant-loop-way : goal.invariant-loop-way
invariant-loop-way l = l.ends.items ++ ends_of (drop l.way-index l.ways) ≡ ends_of l.ways
