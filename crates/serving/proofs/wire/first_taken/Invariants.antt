use Rattle.serving.proofs.Names.{◌≡◌, ◌≤◌, ◌<◌, ◌-◌, ℕ, None, slice_index_or}
use Rattle.serving.proofs.wire.first_taken.Given as goal

-- the slots that were passed by are free
abbrev pub invariant-loop-slot : goal.invariant-loop-slot
invariant-loop-slot l = record {
  least : l.from ≤ l.slot;
  most : l.slot ≤ l.end;
  free : (i : ℕ) → l.from ≤ i → i < l.slot → slice_index_or l.peers.slots i None ≡ None;
}

abbrev pub decreases-loop-slot : goal.decreases-loop-slot
decreases-loop-slot l = l.end - l.slot
