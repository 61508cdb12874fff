use Rattle.depot.proofs.Names.{◌≡◌, ◌≤◌, ◌+◌, length, vec_len, vec_capacity, waiting, entries_of}
use Rattle.depot.proofs.Settled.{AreLeaving}
use Rattle.depot.proofs.settling.ack_noted.Given as goal

-- what has left and what is still to leave is the whole, and there is room for the notes
abbrev pub invariant-loop-departure : goal.invariant-loop-departure
invariant-loop-departure l = record {
  len : length l.queues ≡ length l.fn.queues;
  leaving : AreLeaving l.topology l.id.connection l.id.number (entries_of l.fn.queues) (entries_of l.queues) (waiting l.gone) l.departure-iterator.rest.items l.fn.notes.items l.notes.items;
  counted : length l.departure-iterator.rest.items ≡ l.departure-iterator.rest.len;
  room : vec_len l.notes + length l.departure-iterator.rest.items ≤ vec_capacity l.notes;
}
