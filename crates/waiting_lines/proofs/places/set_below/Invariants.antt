use Rattle.std.proofs.Common.{◌≡◌, ◌<◌, ◌≤◌, ℕ, length}
use Rattle.marks.specs.Sets.{bit_of}
use Rattle.waiting_lines.proofs.places.set_below.Given as goal

-- those before this place are in the set, and no other changes
abbrev pub invariant-loop-place : goal.invariant-loop-place
invariant-loop-place l = record {
  len : length l.marks ≡ length l.initial.marks;
  up : (k : ℕ) → k < l.place → bit_of l.marks k ≡ 1;
  others : (k : ℕ) → l.place ≤ k → bit_of l.marks k ≡ bit_of l.initial.marks k;
}
