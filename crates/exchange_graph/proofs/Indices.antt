-- The first place at which a test passes.
use Rattle.exchange_graph.proofs.Names.{◌≡◌, ℕ, zero, suc, ◌+◌, ◌<◌, ◌≤◌, List, [], ◌∷◌, Bool, true, false, cond, ltb, refl, sym, ap, ◌∙◌, subst, length, get_or, slice_get, find, arith, position_or_len, prefix_len, ltb-true, ltb-false}
use Rattle.std.proofs.Common.{Option, Some, None, IfSome}
use Rattle.std.specs.Prelude.{position, not}
use Rattle.std.proofs.lemmas.List.Folds.{find_at}

prefix_at : (b : Bool) (n m : ℕ) → n ≤ m → cond b (1 + n) 0 ≤ 1 + m
prefix_at true n m h = omega (arith, h)
prefix_at false n m h = omega arith

prefix_within : {X : Type 0} (p : X → Bool) (xs : List X) → prefix_len p xs ≤ length xs
prefix_within p [] = omega arith
prefix_within p (x ∷ xs) = let h = prefix_at (p x) (prefix_len p xs) (length xs) (prefix_within p xs) in omega (arith, h)

some_at : (b : Bool) (n i : ℕ) → cond b (Some n) None ≡ Some i → i ≡ n
some_at true n i e = cc
some_at false n i e = cc

none_at : (b : Bool) (n m : ℕ) → ltb n m ≡ b → n ≤ m → cond b (Some n) None ≡ None → m ≡ n
none_at true n m q h e = absurd (cc)
none_at false n m q h e = omega (arith, ltb-false n m q, h)

pub place_if_some : {X : Type 0} (p : X → Bool) (xs : List X) (i : ℕ) → position p xs ≡ Some i → i ≡ position_or_len p xs
place_if_some p xs i e = some_at (ltb (position_or_len p xs) (length xs)) (position_or_len p xs) i e

pub place_if_none : {X : Type 0} (p : X → Bool) (xs : List X) → position p xs ≡ None → length xs ≡ position_or_len p xs
place_if_none p xs e = none_at (ltb (position_or_len p xs) (length xs)) (position_or_len p xs) (length xs) refl (prefix_within (λ x. not (p x)) xs) e

some_within : (b : Bool) (n m i : ℕ) → ltb n m ≡ b → cond b (Some n) None ≡ Some i → i < m
some_within true n m i q e = let z : n ≡ i = cc in subst (λ (k : ℕ). k < m) z (ltb-true n m q)
some_within false n m i q e = absurd (cc)

-- a place that was found is one of the list
pub within_if_some : {X : Type 0} (p : X → Bool) (xs : List X) (o : Option ℕ) → o ≡ position p xs → IfSome o (λ i. i < length xs)
within_if_some p xs None e = tt
within_if_some p xs (Some i) e = some_within (ltb (position_or_len p xs) (length xs)) (position_or_len p xs) (length xs) i refl (sym e)

stands : {X : Type 0} (xs : List X) (i : ℕ) (d : X) → i < length xs → slice_get xs i ≡ Some (get_or xs i d)
stands [] i d h = absurd (omega (arith, h))
stands (x ∷ xs) zero d h = refl
stands (x ∷ xs) (suc i) d h = stands xs i d (omega (arith, h))

-- what stands at the first place is what is found
pub found_if_some : {X : Type 0} (p : X → Bool) (xs : List X) (i : ℕ) (x : X) → position p xs ≡ Some i → i < length xs → x ≡ get_or xs i x → find p xs ≡ Some x
found_if_some {X} p xs i x e h s = find_at p xs ∙ ap (slice_get xs) (sym (place_if_some p xs i e)) ∙ stands xs i x h ∙ ap (λ (y : X). Some y) (sym s)

past : {X : Type 0} (xs : List X) → slice_get xs (length xs) ≡ None
past [] = refl
past (x ∷ xs) = past xs

pub found_if_none : {X : Type 0} (p : X → Bool) (xs : List X) → position p xs ≡ None → find p xs ≡ None
found_if_none p xs e = find_at p xs ∙ ap (slice_get xs) (sym (place_if_none p xs e)) ∙ past xs
