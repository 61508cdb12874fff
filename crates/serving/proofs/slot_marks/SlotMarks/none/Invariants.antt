use Rattle.serving.proofs.Names.{◌≡◌, ◌<◌, ℕ, false, length, slice_index_or}
use Rattle.serving.proofs.slot_marks.SlotMarks.none.Given as goal

-- the slots so far are not marked
abbrev pub invariant-loop-slot : goal.invariant-loop-slot
invariant-loop-slot l = record {
  length : length l.marks ≡ l.slots;
  so_far : (i : ℕ) → i < l.slot → slice_index_or l.marks i false ≡ false;
}
