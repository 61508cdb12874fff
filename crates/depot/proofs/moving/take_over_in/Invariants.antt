use Rattle.depot.proofs.Names.{◌≡◌, ℕ, drop, length, entries_of, AreSignedBut, taken}
use Rattle.depot.proofs.moving.take_over_in.Given as goal

-- what is still to be taken over brings what all brings
abbrev pub invariant-loop-from : goal.invariant-loop-from
invariant-loop-from l = record {
  whole : taken (drop l.from l.places) (drop l.from (entries_of l.old)) (entries_of l.queues) ≡ taken l.places (entries_of l.initial.old) (entries_of l.initial.queues);
  signed : (lent : ℕ) → AreSignedBut lent (entries_of l.initial.queues) l.initial.signs → AreSignedBut lent (entries_of l.queues) l.signs;
  room : length l.signs ≡ length l.initial.signs;
  len : length l.queues ≡ length l.initial.queues;
  old_len : length l.old ≡ length l.initial.old;
}
