-- What a list has whose elements were taken each once.
use Rattle.certificate_laws.proofs.Names.{◌≡◌, ◌⊎◌, Bool, true, false, cond, List, [], ◌∷◌, refl, sym, ap, subst, inl, inr, Decides, ◌||◌, fold, flat_map, list_any, false≢true, IsIn, appended_if_new, each_once, in_front, in_back, in-append}
use Rattle.std.proofs.Common.{◌++◌, map}

-- ---- members of lists

pub in_flat_map : {A B : Type 0} (f : A → List B) (y : B) (x : A) (xs : List A) → IsIn x xs → IsIn y (f x) → IsIn y (flat_map f xs)
in_flat_map f y x [] i j = absurd i
in_flat_map f y x (z ∷ xs) (inl e) j = in_front y (f z) (flat_map f xs) (subst (λ (v : _). IsIn y (f v)) e j)
in_flat_map f y x (z ∷ xs) (inr i) j = in_back y (f z) (flat_map f xs) (in_flat_map f y x xs i j)

pub in_map : {A B : Type 0} (f : A → B) (x : A) (xs : List A) → IsIn x xs → IsIn (f x) (map f xs)
in_map f x [] i = absurd i
in_map f x (z ∷ xs) (inl e) = inl (ap f e)
in_map f x (z ∷ xs) (inr i) = inr (in_map f x xs i)

pub from_map : {A B : Type 0} (f : A → B) (y : B) (xs : List A) → IsIn y (map f xs) → (x : A) × IsIn x xs × (y ≡ f x)
from_map f y [] i = absurd i
from_map f y (x ∷ xs) (inl e) = (x, inl refl, e)
from_map f y (x ∷ xs) (inr i) = let r = from_map f y xs i in (r.0, inr r.1, r.2)

-- ---- a test that tells equality

pub in_any : {A : Type 0} (same : A → A → Bool) (tells : (x y : A) → Decides (same x y) (x ≡ y)) (x : A) (xs : List A) → Decides (list_any (same x) xs) (IsIn x xs)
in_any same tells x [] = (λ h. absurd (false≢true h), λ i. absurd i)
in_any same tells x (y ∷ ys) = go (same x y) (list_any (same x) ys) (tells x y) (in_any same tells x ys)
  where
    go : (b c : Bool) → Decides b (x ≡ y) → Decides c (IsIn x ys) → Decides (b || c) ((x ≡ y) ⊎ IsIn x ys)
    go true c d e = (λ h. inl (d.0 refl), λ i. refl)
    go false c d e = (λ h. inr (e.0 h), λ i. elim i [ inl s ↦ absurd (false≢true (d.1 s)) | inr j ↦ e.1 j ])

-- ---- each once

module _ {A : Type 0} (same : A → A → Bool) (tells : (x y : A) → Decides (same x y) (x ≡ y)) where
  more_keeps : (xs : List A) (x y : A) → IsIn y xs → IsIn y (appended_if_new same xs x)
  more_keeps xs x y i = elim (list_any (same x) xs) as (λ b. IsIn y (cond b xs (xs ++ x ∷ []))) [ true ↦ i | false ↦ in_front y xs (x ∷ []) i ]

  more_has : (xs : List A) (x : A) → IsIn x (appended_if_new same xs x)
  more_has xs x = go (list_any (same x) xs) (in_any same tells x xs)
    where
      go : (b : Bool) → Decides b (IsIn x xs) → IsIn x (cond b xs (xs ++ x ∷ []))
      go true d = d.0 refl
      go false d = in_back x xs (x ∷ []) (inl refl)

  more_from : (xs : List A) (x y : A) → IsIn y (appended_if_new same xs x) → IsIn y xs ⊎ (y ≡ x)
  more_from xs x y = elim (list_any (same x) xs) as (λ b. IsIn y (cond b xs (xs ++ x ∷ [])) → IsIn y xs ⊎ (y ≡ x)) [
    | true ↦ λ i. inl i
    | false ↦ λ i. elim (in-append y xs (x ∷ []) i) [ inl j ↦ inl j | inr j ↦ elim j [ inl e ↦ inr e | inr n ↦ absurd n ] ]
  ]

  kept_on : (xs acc : List A) (y : A) → IsIn y acc → IsIn y (fold (appended_if_new same) acc xs)
  kept_on [] acc y i = i
  kept_on (x ∷ xs) acc y i = kept_on xs (appended_if_new same acc x) y (more_keeps acc x y i)

  had_on : (xs acc : List A) (y : A) → IsIn y xs → IsIn y (fold (appended_if_new same) acc xs)
  had_on [] acc y i = absurd i
  had_on (x ∷ xs) acc y (inl e) = kept_on xs (appended_if_new same acc x) y (subst (λ (z : A). IsIn z (appended_if_new same acc x)) (sym e) (more_has acc x))
  had_on (x ∷ xs) acc y (inr i) = had_on xs (appended_if_new same acc x) y i

  from_on : (xs acc : List A) (y : A) → IsIn y (fold (appended_if_new same) acc xs) → IsIn y acc ⊎ IsIn y xs
  from_on [] acc y i = inl i
  from_on (x ∷ xs) acc y i = elim (from_on xs (appended_if_new same acc x) y i) [
    | inl j ↦ elim (more_from acc x y j) [ inl k ↦ inl k | inr e ↦ inr (inl e) ]
    | inr j ↦ inr (inr j)
  ]

  pub once_has : (y : A) (xs : List A) → IsIn y xs → IsIn y (each_once same xs)
  once_has y xs i = had_on xs [] y i

  pub once_from : (y : A) (xs : List A) → IsIn y (each_once same xs) → IsIn y xs
  once_from y xs i = elim (from_on xs [] y i) [ inl j ↦ absurd j | inr j ↦ j ]

  -- no two are the same
  abbrev pub Apart : List A → Type 0
  Apart [] = Unit {0}
  Apart (x ∷ xs) = (IsIn x xs → ⊥) × Apart xs

  apart_push : (xs : List A) (x : A) → Apart xs → (IsIn x xs → ⊥) → Apart (xs ++ x ∷ [])
  apart_push [] x a n = (λ i. i, tt)
  apart_push (y ∷ ys) x a n = (λ i. elim (in-append y ys (x ∷ []) i) [ inl j ↦ a.0 j | inr j ↦ elim j [ inl e ↦ n (inl (sym e)) | inr k ↦ k ] ], apart_push ys x a.1 (λ i. n (inr i)))

  more_apart : (xs : List A) (x : A) → Apart xs → Apart (appended_if_new same xs x)
  more_apart xs x a = go (list_any (same x) xs) (in_any same tells x xs)
    where
      go : (b : Bool) → Decides b (IsIn x xs) → Apart (cond b xs (xs ++ x ∷ []))
      go true d = a
      go false d = apart_push xs x a (λ i. absurd (false≢true (d.1 i)))

  apart_on : (xs acc : List A) → Apart acc → Apart (fold (appended_if_new same) acc xs)
  apart_on [] acc a = a
  apart_on (x ∷ xs) acc a = apart_on xs (appended_if_new same acc x) (more_apart acc x a)

  pub once_apart : (xs : List A) → Apart (each_once same xs)
  once_apart xs = apart_on xs [] tt

  -- what stands first stays first
  first_on : (xs rest : List A) (x : A) → (others : List A) × (fold (appended_if_new same) (x ∷ rest) xs ≡ x ∷ others)
  first_on [] rest x = (rest, refl)
  first_on (y ∷ ys) rest x = elim (list_any (same y) (x ∷ rest)) as (λ b. (others : List A) × (fold (appended_if_new same) (cond b (x ∷ rest) ((x ∷ rest) ++ y ∷ [])) ys ≡ x ∷ others)) [
    | true ↦ first_on ys rest x
    | false ↦ first_on ys (rest ++ y ∷ []) x
  ]

  pub once_first : (x : A) (xs : List A) → (others : List A) × (each_once same (x ∷ xs) ≡ x ∷ others)
  once_first x xs = first_on xs [] x
