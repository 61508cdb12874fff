use Rattle.depot.proofs.Names.{◌≡◌, ℕ, length, drop, waiting, entries_of, all_left, room_at}
use Rattle.depot.proofs.rejecting.leave_all.Given as goal

-- what has left and what is still to leave is the whole
abbrev pub invariant-loop-given : goal.invariant-loop-given
invariant-loop-given l = record {
  left : all_left l.id.connection l.id.number (waiting (drop l.given-index l.gone)) (entries_of l.queues) ≡ all_left l.id.connection l.id.number (waiting l.gone) (entries_of l.fn.queues);
  len : length l.queues ≡ length l.fn.queues;
  room : (k : ℕ) → room_at l.queues k ≡ room_at l.fn.queues k;
}
