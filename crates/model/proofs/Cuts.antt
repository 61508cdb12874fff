-- A text is cut at its first separator.
use Rattle.std.proofs.Common.{subst, add-one, ◌≡◌, ℕ, zero, suc, ◌+◌, ◌<◌, [], ◌∷◌, Bool, true, false, cond, eqb, refl, Some, None, length, take, drop, arith}
use Rattle.std.specs.Prelude.{◌==◌}
use Rattle.std.specs.List.{position_from}
use Rattle.model.specs.Words.{Text, parted}

-- where the first separator stands, and the parts round it
pub record Cut (s : ℕ) (xs : Text) (k d : ℕ) : Type 0 where
  pub at : ℕ
  pub is : d ≡ k + at
  pub within : at < length xs
  pub parts : parted s xs ≡ take at xs ∷ parted s (drop (suc at) xs)

cut_at : (s b : ℕ) (bs : Text) (k d : ℕ) (v : Bool) → eqb b s ≡ v → (position_from (λ (c : ℕ). c == s) (k + 1) bs ≡ Some d → Cut s bs (k + 1) d)
    → cond v (Some k) (position_from (λ (c : ℕ). c == s) (k + 1) bs) ≡ Some d → Cut s (b ∷ bs) k d
cut_at s b bs k d true q ih e = record { at = zero; is = (let h : k ≡ d = cc in omega (arith, h)); within = omega arith; parts = rw q refl }
cut_at s b bs k d false q ih e =
    let c = ih e in
    record { at = suc c.at; is = omega (arith, c.is); within = omega (arith, c.within); parts = rw q (rw c.parts refl) }

pub cut : (s : ℕ) (xs : Text) (k d : ℕ) → position_from (λ (c : ℕ). c == s) k xs ≡ Some d → Cut s xs k d
cut s [] k d e = absurd (cc)
cut s (b ∷ bs) k d e = cut_at s b bs k d (eqb b s) refl (cut s bs (k + 1) d) e

uncut_at : (s b : ℕ) (bs : Text) (k : ℕ) (v : Bool) → eqb b s ≡ v → (position_from (λ (c : ℕ). c == s) (k + 1) bs ≡ None → parted s bs ≡ bs ∷ [])
    → cond v (Some k) (position_from (λ (c : ℕ). c == s) (k + 1) bs) ≡ None → parted s (b ∷ bs) ≡ (b ∷ bs) ∷ []
uncut_at s b bs k true q ih e = absurd (cc)
uncut_at s b bs k false q ih e = rw q (rw (ih e) refl)

pub uncut : (s : ℕ) (xs : Text) (k : ℕ) → position_from (λ (c : ℕ). c == s) k xs ≡ None → parted s xs ≡ xs ∷ []
uncut s [] k e = refl
uncut s (b ∷ bs) k e = uncut_at s b bs k (eqb b s) refl (uncut s bs (k + 1)) e

pub first_cut : (s : ℕ) (xs : Text) (d : ℕ) → position_from (λ (c : ℕ). c == s) 0 xs ≡ Some d → parted s xs ≡ take d xs ∷ parted s (drop (d + 1) xs)
first_cut s xs d e =
    let c = cut s xs 0 d e in
    let same : c.at ≡ d = omega (arith, c.is) in
    let P : ℕ → Type 0 = λ (n : ℕ). parted s xs ≡ take n xs ∷ parted s (drop (suc n) xs) in
    let h : P d = subst P same c.parts in
    rw add-one h
