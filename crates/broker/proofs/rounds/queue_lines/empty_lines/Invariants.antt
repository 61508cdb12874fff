use Rattle.broker.proofs.Names.{length, AllAreEmpty}
use Rattle.std.proofs.Common.{◌≡◌}
use Rattle.broker.proofs.rounds.queue_lines.empty_lines.Given as goal

-- this many lines are there, and nobody is in them
abbrev pub invariant-loop : goal.invariant-loop
invariant-loop l = record {
  count : length l.lines.items ≡ l.counter;
  empty : AllAreEmpty l.lines.items;
}
