-- Members of a set in turn (own).
use Rattle.std.specs.Prelude.{◌≡◌, ◌<◌, ◌+◌, ◌⊎◌, ℕ}
use Rattle.marks.specs.Sets.{IsNextMark}

-- `index` is the first member behind `last`, or the first of all if there is none behind it
abbrev pub IsNextInTurn : (ℕ → ℕ) → ℕ → ℕ → Type 0
IsNextInTurn set last index = IsNextMark set (last + 1) index ⊎ (((k : ℕ) → last < k → set k ≡ 0) × IsNextMark set 0 index)
