use Rattle.queue.proofs.Names.{◌≡◌, ◌≤◌, ◌+◌, ◌*◌, drop, total, ready_size}
use Rattle.queue.proofs.lists.ready_bytes.Given as goal

-- what is counted, with what is still to be, is all of it, and none counts for more than 64 bits
abbrev pub invariant-loop-entry : goal.invariant-loop-entry
invariant-loop-entry l = record {
  counted : l.bytes + total ready_size (drop l.entry-index l.entries) ≡ total ready_size l.entries;
  most : l.bytes ≤ l.entry-index * 18446744073709551615;
}
