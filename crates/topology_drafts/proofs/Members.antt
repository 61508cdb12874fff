-- Members of lists.
use Rattle.std.proofs.Common.{◌≡◌, ℕ, zero, suc, ◌<◌, List, [], ◌∷◌, ◌++◌, refl, sym, ap, length, map, get_or, inl, inr, arith, subst}
use Rattle.std.specs.Prelude.{◌⊎◌, Contains}
use Rattle.model.specs.Topology.{IsIn}

pub in_get : {A : Type 0} (xs : List A) (i : ℕ) (d : A) → i < length xs → IsIn (get_or xs i d) xs
in_get [] i d h = absurd (omega (arith, h))
in_get (x ∷ xs) zero d h = inl refl
in_get (x ∷ xs) (suc i) d h = inr (in_get xs i d (omega (arith, h)))

-- where a member stands
pub record Stands {A : Type 0} (xs : List A) (x : A) : Type 0 where
  pub at : ℕ
  pub within : at < length xs
  pub is : (d : A) → get_or xs at d ≡ x

pub get_in : {A : Type 0} (xs : List A) (x : A) → IsIn x xs → Stands xs x
get_in [] x h = absurd h
get_in (y ∷ ys) x h = elim h [
  | inl e ↦ record { at = zero; within = omega arith; is = λ d. sym e }
  | inr r ↦ (let s = get_in ys x r in record { at = suc s.at; within = omega (arith, s.within); is = λ d. s.is d })
]

pub in_map : {A B : Type 0} (f : A → B) (xs : List A) (x : A) → IsIn x xs → IsIn (f x) (map f xs)
in_map f [] x h = absurd h
in_map f (y ∷ ys) x h = elim h [ inl e ↦ inl (ap f e) | inr r ↦ inr (in_map f ys x r) ]

pub map_in : {A B : Type 0} (f : A → B) (xs : List A) (y : B) → IsIn y (map f xs) → (x : A) × IsIn x xs × (f x ≡ y)
map_in f [] y h = absurd h
map_in f (x ∷ xs) y h = elim h [ inl e ↦ (x, inl refl, sym e) | inr r ↦ (let m = map_in f xs y r in (m.0, inr m.1, m.2)) ]

pub in_append : {A : Type 0} (xs ys : List A) (x : A) → IsIn x (xs ++ ys) → IsIn x xs ⊎ IsIn x ys
in_append [] ys x h = inr h
in_append (y ∷ xs) ys x h = elim h [ inl e ↦ inl (inl e) | inr r ↦ (elim (in_append xs ys x r) [ inl a ↦ inl (inr a) | inr b ↦ inr b ]) ]

pub in_left : {A : Type 0} (xs ys : List A) (x : A) → IsIn x xs → IsIn x (xs ++ ys)
in_left [] ys x h = absurd h
in_left (y ∷ xs) ys x h = elim h [ inl e ↦ inl e | inr r ↦ inr (in_left xs ys x r) ]

pub in_right : {A : Type 0} (xs ys : List A) (x : A) → IsIn x ys → IsIn x (xs ++ ys)
in_right [] ys x h = h
in_right (y ∷ xs) ys x h = inr (in_right xs ys x h)

pub in_contains : {A : Type 0} (xs : List A) (x : A) → Contains xs x → IsIn x xs
in_contains xs x c = subst (λ y. IsIn y xs) c.2 (in_get xs c.0 x c.1)

pub contains_in : {A : Type 0} (xs : List A) (x : A) → IsIn x xs → Contains xs x
contains_in xs x h = let s = get_in xs x h in (s.at, s.within, s.is x)
