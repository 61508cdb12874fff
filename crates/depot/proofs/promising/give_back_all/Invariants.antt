use Rattle.depot.proofs.Names.{◌≡◌, ℕ, length, take, entries_of, arriving_at, times, AreEmptied, GainsNone}
use Rattle.depot.proofs.promising.give_back_all.Given as goal

-- the queues of the dead letters before the index have no room
abbrev pub invariant-loop-arrival : goal.invariant-loop-arrival
invariant-loop-arrival l = record {
  len : length l.queues ≡ length l.fn.queues;
  same : entries_of l.queues ≡ entries_of l.fn.queues;
  gains : GainsNone l.fn.queues l.queues;
  emptied : AreEmptied l.queues (λ (k : ℕ). times k (arriving_at (take l.arrival-index l.arrivals)));
}
