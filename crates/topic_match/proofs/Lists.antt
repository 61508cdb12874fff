-- What stands in lists.
use Rattle.topic_match.proofs.Names.{◌≡◌, ℕ, zero, suc, ◌+◌, ◌≤◌, ◌<◌, List, [], ◌∷◌, ◌++◌, refl, sym, ap, ◌∙◌, subst, length, take, get_or, inl, inr, arith, IsIn, AllDistinct}
use Rattle.std.specs.Prelude.{◌⊎◌}

pub in_front : {A : Type 0} (xs ys : List A) (a : A) → IsIn a xs → IsIn a (xs ++ ys)
in_front [] ys a h = absurd h
in_front (x ∷ xs) ys a h = elim h [ inl e ↦ inl e | inr r ↦ inr (in_front xs ys a r) ]

pub in_back : {A : Type 0} (xs ys : List A) (a : A) → IsIn a ys → IsIn a (xs ++ ys)
in_back [] ys a h = h
in_back (x ∷ xs) ys a h = inr (in_back xs ys a h)

pub in_two : {A : Type 0} (xs ys : List A) (a : A) → IsIn a (xs ++ ys) → IsIn a xs ⊎ IsIn a ys
in_two [] ys a h = inr h
in_two (x ∷ xs) ys a h = elim h [ inl e ↦ inl (inl e) | inr r ↦ (elim (in_two xs ys a r) [ inl p ↦ inl (inr p) | inr q ↦ inr q ]) ]

pub in_push : {A : Type 0} (xs : List A) (y a : A) → IsIn a (xs ++ y ∷ []) → IsIn a xs ⊎ (a ≡ y)
in_push xs y a h = elim (in_two xs (y ∷ []) a h) [ inl p ↦ inl p | inr q ↦ (elim q [ inl e ↦ inr e | inr r ↦ absurd r ]) ]

pub apart_two : {A : Type 0} (xs ys : List A) → AllDistinct xs → AllDistinct ys → ((a : A) → IsIn a xs → IsIn a ys → ⊥) → AllDistinct (xs ++ ys)
apart_two [] ys a b n = b
apart_two (x ∷ xs) ys a b n = (λ h. (elim (in_two xs ys x h) [ inl p ↦ a.0 p | inr q ↦ n x (inl refl) q ]), apart_two xs ys a.1 b (λ z h k. n z (inr h) k))

pub in_at : {A : Type 0} (xs : List A) (n : ℕ) (x : A) → n < length xs → x ≡ get_or xs n x → IsIn x xs
in_at [] n x h e = absurd (omega (arith, h))
in_at (y ∷ xs) zero x h e = inl e
in_at (y ∷ xs) (suc n) x h e = inr (in_at xs n x (omega (arith, h)) e)

pub in_taken : {A : Type 0} (xs : List A) (n : ℕ) (a : A) → IsIn a (take n xs) → IsIn a xs
in_taken [] zero a h = h
in_taken [] (suc n) a h = h
in_taken (x ∷ xs) zero a h = absurd h
in_taken (x ∷ xs) (suc n) a h = elim h [ inl e ↦ inl e | inr r ↦ inr (in_taken xs n a r) ]

pub take_push : {A : Type 0} (xs : List A) (n : ℕ) (x : A) → n < length xs → x ≡ get_or xs n x → take (n + 1) xs ≡ take n xs ++ x ∷ []
take_push [] n x h e = absurd (omega (arith, h))
take_push (y ∷ xs) zero x h e = ap (λ z. z ∷ []) (sym e)
take_push (y ∷ xs) (suc n) x h e = let k : suc n + 1 ≡ suc (n + 1) = omega arith in rw k (ap (λ z. y ∷ z) (take_push xs n x (omega (arith, h)) e))

-- what stands at a place stands nowhere before it
pub new_at : {A : Type 0} (xs : List A) (n : ℕ) (x : A) → AllDistinct xs → n < length xs → x ≡ get_or xs n x → IsIn x (take n xs) → ⊥
new_at [] n x a h e i = omega (arith, h)
new_at (y ∷ xs) zero x a h e i = i
new_at (y ∷ xs) (suc n) x a h e i = elim i [
  | inl f ↦ a.0 (subst (λ z. IsIn z xs) f (in_at xs n x (omega (arith, h)) e))
  | inr r ↦ new_at xs n x a.1 (omega (arith, h)) e r
]

pub take_all : {A : Type 0} (xs : List A) → take (length xs) xs ≡ xs
take_all [] = refl
take_all (x ∷ xs) = ap (λ z. x ∷ z) (take_all xs)

-- a front of some first words is some first words
pub front_taken : {A : Type 0} (xs : List A) (i : ℕ) (ys zs : List A) → i ≤ length xs → take i xs ≡ ys ++ zs → (j : ℕ) × (j ≤ length xs) × (ys ≡ take j xs)
front_taken xs i [] zs h e = (0, omega arith, refl)
front_taken [] zero (y ∷ ys) zs h e = absurd (cc)
front_taken [] (suc i) (y ∷ ys) zs h e = absurd (omega (arith, h))
front_taken (x ∷ xs) zero (y ∷ ys) zs h e = absurd (cc)
front_taken (x ∷ xs) (suc i) (y ∷ ys) zs h e =
    let f : x ∷ take i xs ≡ y ∷ (ys ++ zs) = e in
    let head : x ≡ y = cc in
    let tail : take i xs ≡ ys ++ zs = cc in
    let r = front_taken xs i ys zs (omega (arith, h)) tail in
    (suc r.0, (let k = r.1 in omega (arith, k)), ap (λ z. z ∷ ys) (sym head) ∙ ap (λ z. x ∷ z) r.2)
