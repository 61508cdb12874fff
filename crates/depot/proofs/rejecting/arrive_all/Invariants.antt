use Rattle.depot.proofs.Names.{◌≡◌, ◌<◌, ◌+◌, ◌≤◌, ℕ, length, All, entries_of, arrived, arriving_at, room_at, times}
use Rattle.depot.proofs.rejecting.arrive_all.Given as goal

-- what has come and what is still to come is the whole, and there is room for it
abbrev pub invariant-loop-arrival : goal.invariant-loop-arrival
invariant-loop-arrival l = record {
  arrived : arrived l.arrival-iterator.rest.items (entries_of l.queues) ≡ arrived l.fn.arrivals.items (entries_of l.fn.queues);
  len : length l.queues ≡ length l.fn.queues;
  within : All (λ (i : ℕ). i < length l.queues) (arriving_at l.arrival-iterator.rest.items);
  room : (k : ℕ) → times k (arriving_at l.arrival-iterator.rest.items) ≤ room_at l.queues k;
  spent : (k : ℕ) → room_at l.queues k + times k (arriving_at l.fn.arrivals.items) ≡ room_at l.fn.queues k + times k (arriving_at l.arrival-iterator.rest.items);
}
