use Rattle.serving.proofs.Names.{◌≤◌, ◌<◌, ◌-◌, ◌⊎◌, ℕ, length, IsMarkedAt}
use Rattle.serving.proofs.rounds.next_settled.Given as goal

-- each slot so far is marked
abbrev pub invariant-loop-slot : goal.invariant-loop-slot
invariant-loop-slot l = record {
  least : l.from ≤ l.slot;
  marked : (i : ℕ) → l.from ≤ i → i < l.slot → IsMarkedAt l.quiet i ⊎ IsMarkedAt l.full i;
}

abbrev pub decreases-loop-slot : goal.decreases-loop-slot
decreases-loop-slot l = length l.full - l.slot
