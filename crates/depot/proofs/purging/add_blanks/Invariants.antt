use Rattle.depot.proofs.Names.{◌≡◌, ◌≤◌, ◌+◌, ◌++◌, vec_len, vec_capacity, Left, Purged}
use Rattle.std.proofs.Common.{replicate}
use Rattle.depot.proofs.purging.add_blanks.Given as goal

abbrev pub invariant-loop : goal.invariant-loop
invariant-loop l = record {
  items : l.notes.items ≡ l.fn.notes.items ++ replicate l.counter (Left 0 l.name Purged);
  len : vec_len l.notes ≡ vec_len l.fn.notes + l.counter;
  room : vec_len l.fn.notes + l.count ≤ vec_capacity l.notes;
}
