-- Guarantees that are kept one by one.
use Rattle.guarantees.proofs.Names.{◌≡◌, ℕ, ◌++◌, zero, suc, List, [], ◌∷◌, length, refl, arith, All, Guarantee, ArePatterns, IsGuaranteeWorded}

-- these are kept, and those are left, so many; all are patterns
pub record KeptSoFar (kept left all : List Guarantee) (count : ℕ) : Type 0 where
  pub reported : kept ++ left ≡ all
  pub counted : count ≡ length left
  pub patterns : All ArePatterns left

pub first_of : (x : Guarantee) (xs : List Guarantee) → All ArePatterns (x ∷ xs) → ArePatterns x
first_of x xs a = a zero x (omega arith)

pub rest_of : (x : Guarantee) (xs : List Guarantee) → All ArePatterns (x ∷ xs) → All ArePatterns xs
rest_of x xs a k d h = a (suc k) d (omega (arith, h))

pub all_worded : (xs : List Guarantee) → All IsGuaranteeWorded xs → All ArePatterns xs
all_worded xs a k d h = (a k d h).patterns

pub nothing_left : {X : Type 0} (l : List X) → length l ≡ 0 → l ≡ []
nothing_left [] h = refl
nothing_left (x ∷ xs) h = absurd (omega arith)
