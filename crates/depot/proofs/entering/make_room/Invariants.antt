use Rattle.depot.proofs.Names.{◌≡◌, ◌<◌, ◌≤◌, ℕ, length, get_or, entries_of, places, room_at}
use Rattle.depot.proofs.entering.make_room.Given as goal

-- the queues before the index have room
abbrev pub invariant-loop-turn : goal.invariant-loop-turn
invariant-loop-turn l = record {
  len : length l.queues ≡ length l.fn.queues;
  same : entries_of l.queues ≡ entries_of l.fn.queues;
  kept : (k : ℕ) → room_at l.fn.queues k ≤ room_at l.queues k;
  room : (k : ℕ) → k < l.turn-index → l.more ≤ room_at l.queues (get_or (places l.turns) k 0);
}
