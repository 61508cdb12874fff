use Rattle.depot.proofs.Names.{◌≡◌, ℕ, length, take, entries_of, arriving_at, times, MakesRoom}
use Rattle.depot.proofs.promising.reserve_all.Given as goal

-- there is room for the dead letters before the index
abbrev pub invariant-loop-arrival : goal.invariant-loop-arrival
invariant-loop-arrival l = record {
  len : length l.queues ≡ length l.fn.queues;
  same : entries_of l.queues ≡ entries_of l.fn.queues;
  room : MakesRoom l.fn.queues l.queues (λ (k : ℕ). times k (arriving_at (take l.arrival-index l.arrivals)));
}
