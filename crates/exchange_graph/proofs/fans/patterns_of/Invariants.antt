use Rattle.exchange_graph.proofs.Names.{◌≡◌, ◌++◌, drop, patterns_of}
use Rattle.exchange_graph.proofs.fans.patterns_of.Given as goal

abbrev pub invariant-loop-way : goal.invariant-loop-way
invariant-loop-way l = l.found.items ++ patterns_of (drop l.way-index l.ways) ≡ patterns_of l.ways
