-- The value of the buffer of unread bytes.
use Rattle.std.specs.Prelude.{◌≡◌, ◌<◌, ℕ, List, ◌++◌, Option, MatchOption, length}

-- a byte queue and its spare room
pub record Waiting : Type 0 where
  -- the bytes that were fed and are not taken yet
  pub bytes : List ℕ
  -- how many more bytes can be put without an allocation
  pub room : ℕ

-- the first eight bytes were taken; or there are fewer, and none was taken
abbrev pub TakesEight : Waiting → Option (List ℕ) → Waiting → Type 0
TakesEight old result new = MatchOption result ((length old.bytes < 8) × (new ≡ old))
    (λ bytes. (old.bytes ≡ bytes ++ new.bytes) × (length bytes ≡ 8))
