use Rattle.depot.proofs.Names.{◌≡◌, ◌≤◌, ◌+◌, false, length, map, drop, vec_len, vec_capacity, waiting, departure_in, entries_of}
use Rattle.depot.proofs.Settled.{AreLeaving}
use Rattle.notes.specs.Kept.{are_kept}
use Rattle.depot.proofs.settling.ack_unnoted.Given as goal

-- what has left and what is still to leave is the whole, and there is room for the notes, which nobody keeps
abbrev pub invariant-loop-given : goal.invariant-loop-given
invariant-loop-given l = record {
  len : length l.queues ≡ length l.fn.queues;
  leaving : AreLeaving l.topology l.id.connection l.id.number (entries_of l.fn.queues) (entries_of l.queues) (waiting l.gone) (map (departure_in l.topology) (waiting (drop l.given-index l.gone))) l.fn.notes.items l.notes.items;
  room : vec_len l.notes + length l.gone ≤ vec_capacity l.notes + l.given-index;
  unkept : are_kept l.notes ≡ false;
}
