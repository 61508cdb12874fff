use Rattle.queue.proofs.Names.{◌≡◌, ◌++◌, map, filter, drop, vec_capacity, is_ready, number_of}
use Rattle.queue.proofs.lists.append_numbers.Given as goal

-- what was appended, with what is still to be, is all of it
abbrev pub invariant-loop-entry : goal.invariant-loop-entry
invariant-loop-entry l = record {
  numbers : l.numbers.items ++ map number_of (filter is_ready (drop l.entry-index l.entries)) ≡ l.initial.numbers.items ++ map number_of (filter is_ready l.entries);
  capacity : vec_capacity l.numbers ≡ vec_capacity l.initial.numbers;
}
