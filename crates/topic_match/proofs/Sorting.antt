-- Places that are sorted.
use Rattle.topic_match.proofs.Names.{◌≡◌, ℕ, zero, suc, ◌<◌, List, [], ◌∷◌, Bool, true, false, refl, sym, ap, ◌∙◌, subst, length, get_or, eqb, inl, inr, arith, AllPairs, eqb-true, Text, words, IsIn, Token, Node, Met, AreSound, AreFound, AreRising, AreMatches, IsTrie, AllDistinct, Begins, AreMet}
use Rattle.std.specs.List.{IsDistinct, Contains}
use Rattle.std.specs.List.Sorted.{IsPermutation, IsSorted}
use Rattle.std.specs.Ordering.{nat_cmp}
use Rattle.std.proofs.lemmas.List.Sorted.{Contains-permutation, IsPermutation-sym, IsNonDecreasingBy-from_sort}
use Rattle.std.proofs.lemmas.List.Kept.{AllPairs-from_increasing}
use Rattle.std.proofs.lemmas.Map.Keys.{IsDistinct-from_apart, IsDistinct-IsPermutation, IsStrictlyIncreasing-from_distinct}
use Rattle.topic_match.proofs.Lists.{in_at}
use Rattle.topic_match.proofs.Grown.{same_default}
use Rattle.topic_match.proofs.Law.{only_matching, all_matching}

apart_at : (xs : List ℕ) (i j d : ℕ) → AllDistinct xs → i < j → j < length xs → get_or xs i d ≡ get_or xs j d → ⊥
apart_at [] i j d a h k e = omega (arith, k)
apart_at (x ∷ xs) i zero d a h k e = omega (arith, h)
apart_at (x ∷ xs) zero (suc j) d a h k e = a.0 (in_at xs j x (omega (arith, k)) (e ∙ same_default xs j d x (omega (arith, k))))
apart_at (x ∷ xs) (suc i) (suc j) d a h k e = apart_at xs i j d a.1 (omega (arith, h)) (omega (arith, k)) e

unlike : (x y : ℕ) → (x ≡ y → ⊥) → (v : Bool) → eqb x y ≡ v → eqb x y ≡ false
unlike x y n true e = absurd (n (eqb-true x y e))
unlike x y n false e = e

distinct_numbers : (xs : List ℕ) → AllDistinct xs → IsDistinct eqb xs
distinct_numbers xs a = IsDistinct-from_apart eqb xs (λ i j d h k. unlike (get_or xs i d) (get_or xs j d) (apart_at xs i j d a h k) (eqb (get_or xs i d) (get_or xs j d)) refl)

flips : (x y : ℕ) → eqb x y ≡ eqb y x
flips x y = go (eqb x y) (eqb y x) refl refl
  where
    same : x ≡ y → eqb x y ≡ eqb y x
    same e = ap (λ (z : ℕ). eqb x z) (sym e) ∙ ap (λ (z : ℕ). eqb z x) e

    go : (u v : Bool) → eqb x y ≡ u → eqb y x ≡ v → eqb x y ≡ eqb y x
    go true v p q = same (eqb-true x y p)
    go false true p q = same (sym (eqb-true y x q))
    go false false p q = p ∙ sym q

rising : (xs ys : List ℕ) → AllDistinct xs → IsPermutation xs ys → IsSorted nat_cmp ys → AllPairs (λ (i j : ℕ). i < j) ys
rising xs ys a p s =
    AllPairs-from_increasing ys (IsStrictlyIncreasing-from_distinct ys (IsNonDecreasingBy-from_sort (λ (x : ℕ). x) ys s) (IsDistinct-IsPermutation eqb flips xs ys p (distinct_numbers xs a)))

contains : (xs : List ℕ) (p : ℕ) → IsIn p xs → Contains xs p
contains [] p h = absurd h
contains (x ∷ xs) p h = elim h [ inl e ↦ (0, omega arith, sym e) | inr r ↦ (let k = contains xs p r in let q = k.1 in (suc k.0, omega (arith, q), k.2)) ]

is_in : (xs : List ℕ) (p : ℕ) → Contains xs p → IsIn p xs
is_in xs p c = in_at xs c.0 p c.1 (sym c.2)

pub sorted_found : (lists : List (List ℕ)) (met : List Met) (n : ℕ) (found sorted : List ℕ) → AreFound lists met n found → IsPermutation found sorted → IsSorted nat_cmp sorted
    → AreRising lists met n sorted
sorted_found lists met n found sorted f p s = record {
  rising = rising found sorted f.distinct p s;
  only = λ i h. f.only i (is_in found i (Contains-permutation sorted found i (IsPermutation-sym found sorted p) (contains sorted i h)));
  all = λ i h. is_in sorted i (Contains-permutation found sorted i p (contains found i (f.all i h)));
}

pub law : (patterns : List (List Token)) (nodes : List Node) (slots ends : List ℕ) (indices : List (List ℕ)) (key : Text) (met : List Met) (found : List ℕ) → IsTrie patterns nodes slots ends indices
    → AreMet patterns nodes (words key) (Begins []) met → AreRising indices met (length (words key)) found → AreMatches patterns key found
law patterns nodes slots ends indices key met found t a f = record {
  rising = f.rising;
  within = λ i h. (only_matching patterns nodes slots ends indices (words key) met i t a (f.only i h)).0;
  only = λ i h. (only_matching patterns nodes slots ends indices (words key) met i t a (f.only i h)).1;
  all = λ i h m. f.all i (all_matching patterns nodes slots ends indices (words key) met i t a h m);
}

-- ---- what is known of slices

pub same_met : (p q : List (List Token)) (n m : List Node) (v w : List Text) (met : List Met) → p ≡ q → n ≡ m → v ≡ w → AreMet p n v (Begins []) met → AreMet q m w (Begins []) met
same_met p q n m v w met e f g a =
    subst (λ (z : List (List Token)). AreMet z m w (Begins []) met) e (subst (λ (z : List Node). AreMet p z w (Begins []) met) f (subst (λ (z : List Text). AreMet p n z (Begins []) met) g a))

pub same_sound : (k l : List (List ℕ)) (m o : List Met) (i j : ℕ) → k ≡ l → m ≡ o → i ≡ j → AreSound l o j → AreSound k m i
same_sound k l m o i j e f g a =
    subst (λ (z : List (List ℕ)). AreSound z m i) (sym e) (subst (λ (z : List Met). AreSound l z i) (sym f) (subst (λ (z : ℕ). AreSound l o z) (sym g) a))

pub same_rising : (k l : List (List ℕ)) (m o : List Met) (i j : ℕ) (found : List ℕ) → k ≡ l → m ≡ o → i ≡ j → AreRising k m i found → AreRising l o j found
same_rising k l m o i j found e f g a =
    subst (λ (z : List (List ℕ)). AreRising z o j found) e (subst (λ (z : List Met). AreRising k z j found) f (subst (λ (z : ℕ). AreRising k m z found) g a))
