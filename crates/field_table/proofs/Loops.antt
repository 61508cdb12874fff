-- What a loop over values, or over pairs, keeps: what is done and what is left is the whole.
use Rattle.field_table.proofs.Names.{◌≡◌, ℕ, ◌+◌, ◌^◌, ◌<◌, ◌≤◌, ◌++◌, List, Vec, Global, length, vec_len, vec_capacity}

-- what was read, before what is left, is the whole; where the whole is right, so is what is left
pub record IsReadSoFar {X : Type 0} (Spells : List ℕ → X → Type 0) (Has : List ℕ → Type 0) (before : X → X) (rest whole : List ℕ) : Type 0 where
  pub onto : (xs : X) → Spells rest xs → Spells whole (before xs)
  pub back : Has whole → Has rest

-- what was measured, and what is left
pub record IsMeasuredSoFar {X : Type 0} (bytes : X → List ℕ) (Fits : X → Type 0) (len : ℕ) (rest whole : X) : Type 0 where
  pub sum : len + length (bytes rest) ≡ length (bytes whole)
  pub small : len < 2 ^ 32
  pub onto : Fits rest → Fits whole
  pub back : Fits whole → Fits rest

-- what was put, and what is left
pub record IsPutSoFar {X : Type 0} (bytes : X → List ℕ) (Fits : X → Type 0) (was out : Vec ℕ Global) (rest whole : X) : Type 0 where
  pub fits : Fits rest
  pub items : out.items ++ bytes rest ≡ was.items ++ bytes whole
  pub len : vec_len out + length (bytes rest) ≡ vec_len was + length (bytes whole)
  pub capacity : vec_capacity was ≤ vec_capacity out
