-- When a socket that waits to be asked again is due (own).
use Rattle.std.specs.Prelude.{◌≡◌, ◌<◌, ◌+◌, ◌/◌, ℕ, Bool, true, false}

-- In a round that takes a turn, a socket that has waited since turn `since` in a line of this length, of which `asked` were asked in this round, is not passed
-- over if it is due: more turns came after `since` than an eighth of the line's length, and fewer than 8 were asked.
abbrev pub AsksIfDue : ℕ → ℕ → Bool → ℕ → ℕ → Bool → Type 0
AsksIfDue length asked is_turn turn since passes = is_turn ≡ true → since + length / 8 < turn → asked < 8 → passes ≡ false
