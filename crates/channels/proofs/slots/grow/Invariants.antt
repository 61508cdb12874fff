use Rattle.channels.proofs.Imports.{◌≡◌, ◌+◌, ◌++◌, None, replicate, vec_len, vec_capacity, ◌≤◌}
use Rattle.channels.proofs.slots.grow.Given as goal

abbrev pub invariant-loop : goal.invariant-loop
invariant-loop l = record {
  items : l.channels.items ≡ l.initial.channels.items ++ replicate l.counter None;
  len : vec_len l.channels ≡ vec_len l.initial.channels + l.counter;
  room : vec_len l.initial.channels + l.more ≤ vec_capacity l.channels;
}
