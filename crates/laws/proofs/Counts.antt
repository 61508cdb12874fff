-- Counts over lists, and facts on each element of a list.
use Rattle.laws.proofs.Names.{◌≡◌, ℕ, zero, suc, ◌⊎◌, List, [], ◌∷◌, ◌++◌, Bool, true, false, cond, length, get_or, refl, sym, ap, subst, ◌∙◌, arith, None, inl, inr, count_by, filter_map, MatchBool, list_any, AllByRecursion, sum_by-append, sum_by-cons, IsIn}
use Rattle.std.proofs.Common.{◌+◌, ◌<◌, map, Option}
use Rattle.std.specs.Prelude.{filter}

-- ---- counts

pub count-append : {A : Type 0} (p : A → Bool) (xs ys : List A) → count_by p (xs ++ ys) ≡ count_by p xs + count_by p ys
count-append p xs ys = sum_by-append (λ x. cond (p x) 1 0) xs ys

pub count-cons : {A : Type 0} (p : A → Bool) (x : A) (xs : List A) → count_by p (x ∷ xs) ≡ cond (p x) 1 0 + count_by p xs
count-cons p x xs = sum_by-cons (λ x. cond (p x) 1 0) x xs

pub count-cons_yes : {A : Type 0} (p : A → Bool) (x : A) (xs : List A) → p x ≡ true → count_by p (x ∷ xs) ≡ 1 + count_by p xs
count-cons_yes p x xs e = count-cons p x xs ∙ ap (λ b. cond b 1 0 + count_by p xs) e

pub count-cons_no : {A : Type 0} (p : A → Bool) (x : A) (xs : List A) → p x ≡ false → count_by p (x ∷ xs) ≡ count_by p xs
count-cons_no p x xs e = let h : count_by p (x ∷ xs) ≡ 0 + count_by p xs = count-cons p x xs ∙ ap (λ b. cond b 1 0 + count_by p xs) e in omega arith

-- a map that keeps the test keeps the count
pub count-map : {A : Type 0} (p : A → Bool) (f : A → A) → ((x : A) → p (f x) ≡ p x) → (xs : List A) → count_by p (map f xs) ≡ count_by p xs
count-map p f same [] = refl
count-map p f same (x ∷ xs) = count-cons p (f x) (map f xs) ∙ rw (same x, count-map p f same xs) (sym (count-cons p x xs))

-- ---- where no element passes

pub count_none : {A : Type 0} (p : A → Bool) (xs : List A) → AllByRecursion (λ x. p x ≡ false) xs → count_by p xs ≡ 0
count_none p [] a = refl
count_none p (x ∷ xs) a = count-cons_no p x xs a.0 ∙ count_none p xs a.1

pub any_none : {A : Type 0} (p : A → Bool) (xs : List A) → AllByRecursion (λ x. p x ≡ false) xs → list_any p xs ≡ false
any_none p [] a = refl
any_none p (x ∷ xs) a = rw a.0 (any_none p xs a.1)

pub filter_map_none : {A B : Type 0} (f : A → Option B) (xs : List A) → AllByRecursion (λ x. f x ≡ None) xs → filter_map f xs ≡ []
filter_map_none f [] a = refl
filter_map_none f (x ∷ xs) a = rw a.0 (filter_map_none f xs a.1)

-- ---- facts on each element

pub all-append : {A : Type 0} (P : A → Type 0) (xs ys : List A) → AllByRecursion P xs → AllByRecursion P ys → AllByRecursion P (xs ++ ys)
all-append P [] ys p q = q
all-append P (x ∷ xs) ys p q = (p.0, all-append P xs ys p.1 q)

pub all_each : {A : Type 0} (P Q : A → Type 0) → ((x : A) → P x → Q x) → (xs : List A) → AllByRecursion P xs → AllByRecursion Q xs
all_each P Q f [] a = tt
all_each P Q f (x ∷ xs) a = (f x a.0, all_each P Q f xs a.1)

pub all_in : {A : Type 0} (P : A → Type 0) (x : A) (xs : List A) → AllByRecursion P xs → IsIn x xs → P x
all_in P x [] a i = absurd i
all_in P x (y ∷ ys) a (inl e) = subst P (sym e) a.0
all_in P x (y ∷ ys) a (inr i) = all_in P x ys a.1 i

pub filter_all : {A : Type 0} (P : A → Type 0) (test : A → Bool) (xs : List A) → AllByRecursion P xs → AllByRecursion P (filter test xs)
filter_all P test [] a = tt
filter_all P test (x ∷ xs) a = go (test x) (filter_all P test xs a.1)
  where
    go : (b : Bool) → AllByRecursion P (filter test xs) → AllByRecursion P (cond b (x ∷ filter test xs) (filter test xs))
    go true r = (a.0, r)
    go false r = r

-- ---- elements

pub in-append : {A : Type 0} (x : A) (xs ys : List A) → IsIn x (xs ++ ys) → IsIn x xs ⊎ IsIn x ys
in-append x [] ys i = inr i
in-append x (y ∷ xs) ys (inl e) = inl (inl e)
in-append x (y ∷ xs) ys (inr i) = elim (in-append x xs ys i) [ inl j ↦ inl (inr j) | inr j ↦ inr j ]

pub in_front : {A : Type 0} (x : A) (xs ys : List A) → IsIn x xs → IsIn x (xs ++ ys)
in_front x [] ys i = absurd i
in_front x (y ∷ xs) ys (inl e) = inl e
in_front x (y ∷ xs) ys (inr i) = inr (in_front x xs ys i)

pub in_back : {A : Type 0} (x : A) (xs ys : List A) → IsIn x ys → IsIn x (xs ++ ys)
in_back x [] ys i = i
in_back x (y ∷ xs) ys i = inr (in_back x xs ys i)

pub in_from_contains : {A : Type 0} (xs : List A) (x : A) (k : ℕ) → k < length xs → get_or xs k x ≡ x → IsIn x xs
in_from_contains [] x k lt e = absurd (omega arith)
in_from_contains (y ∷ xs) x zero lt e = inl (sym e)
in_from_contains (y ∷ xs) x (suc k) lt e = inr (in_from_contains xs x k (omega arith) e)

pub in-map : {A B : Type 0} (f : A → B) (x : A) (xs : List A) → IsIn x xs → IsIn (f x) (map f xs)
in-map f x [] i = absurd i
in-map f x (y ∷ xs) (inl e) = inl (ap f e)
in-map f x (y ∷ xs) (inr i) = inr (in-map f x xs i)

-- ---- one of two facts

-- what follows from either follows
pub from_either : {P Q R : Type 0} (b : Bool) → (P → R) → (Q → R) → MatchBool b P Q → R
from_either true f g p = f p
from_either false f g q = g q
