use Rattle.exchange_graph.proofs.Names.{◌≡◌, replicate}
use Rattle.std.proofs.Common.{None}
use Rattle.exchange_graph.proofs.kept.empty_slots.Given as goal

abbrev pub invariant-loop : goal.invariant-loop
invariant-loop l = l.slots.items ≡ replicate l.counter None
