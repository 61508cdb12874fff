use Rattle.std.proofs.Common.{◌≡◌, ◌<◌, ◌≤◌, ℕ, length}
use Rattle.marks.specs.Sets.{bit_of}
use Rattle.waiting_lines.proofs.places.clear_between.Given as goal

-- those from the first to this place are not in the set, and no other changes
abbrev pub invariant-loop-place : goal.invariant-loop-place
invariant-loop-place l = record {
  len : length l.marks ≡ length l.initial.marks;
  least : l.from ≤ l.place;
  down : (k : ℕ) → l.from ≤ k → k < l.place → bit_of l.marks k ≡ 0;
  before : (k : ℕ) → k < l.from → bit_of l.marks k ≡ bit_of l.initial.marks k;
  behind : (k : ℕ) → l.place ≤ k → bit_of l.marks k ≡ bit_of l.initial.marks k;
}
