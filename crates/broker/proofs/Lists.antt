-- Lists: who is in them, what is left of them, and that nobody is in them twice.
use Rattle.broker.proofs.Names.{◌∙◌, ◌≤◌, ◌+◌, ◌<◌, ◌++◌, ℕ, zero, suc, List, [], ◌∷◌, Bool, true, false, if◌then◌else◌, cond, length, filter, get_or, inl, inr, refl, sym, ap, subst, arith, false≢true, append-nil, IsIn, count_before, AllDistinct}
use Rattle.std.proofs.Common.{◌≡◌, ◌⊎◌}

-- ---- who is in a list

pub in_either : {X : Type 0} (y : X) (xs ys : List X) → IsIn y (xs ++ ys) → IsIn y xs ⊎ IsIn y ys
in_either y [] ys i = inr i
in_either y (x ∷ xs) ys (inl s) = inl (inl s)
in_either y (x ∷ xs) ys (inr i) = elim (in_either y xs ys i) [ inl j ↦ inl (inr j) | inr j ↦ inr j ]

pub in_left : {X : Type 0} (y : X) (xs ys : List X) → IsIn y xs → IsIn y (xs ++ ys)
in_left y [] ys i = absurd i
in_left y (x ∷ xs) ys (inl s) = inl s
in_left y (x ∷ xs) ys (inr i) = inr (in_left y xs ys i)

pub in_right : {X : Type 0} (y : X) (xs ys : List X) → IsIn y ys → IsIn y (xs ++ ys)
in_right y [] ys i = i
in_right y (x ∷ xs) ys i = inr (in_right y xs ys i)

in_parts : {X : Type 0} (y : X) (xs ys : List X) → IsIn y (xs ++ ys) → IsIn y (ys ++ xs)
in_parts y xs ys i = elim (in_either y xs ys i) [ inl j ↦ in_right y ys xs j | inr j ↦ in_left y ys xs j ]

-- what is in a list is at some index
pub place_of_in : {X : Type 0} (y : X) (xs : List X) → IsIn y xs → (j : ℕ) × (j < length xs) × ((d : X) → get_or xs j d ≡ y)
place_of_in y [] i = absurd i
place_of_in y (x ∷ xs) (inl s) = (zero, (omega arith), λ d. sym s)
place_of_in y (x ∷ xs) (inr i) = let (j, lt, e) = place_of_in y xs i in (suc j, (omega (arith, lt)), e)

-- ---- nobody is in a list twice

-- one that is nowhere in a list may be anywhere in it
distinct_among : {X : Type 0} (x : X) (ys xs : List X) → (IsIn x (ys ++ xs) → ⊥) → AllDistinct (ys ++ xs) → AllDistinct (ys ++ x ∷ xs)
distinct_among x [] xs none d = (none, d)
distinct_among x (y ∷ ys) xs none d = ((λ i. other (in_parts y ys (x ∷ xs) i)), distinct_among x ys xs (λ i. none (inr i)) d.1)
  where
    other : IsIn y (x ∷ xs ++ ys) → ⊥
    other (inl s) = none (inl (sym s))
    other (inr i) = d.0 (in_parts y xs ys i)

pub distinct_parts : {X : Type 0} (xs ys : List X) → AllDistinct (xs ++ ys) → AllDistinct (ys ++ xs)
distinct_parts [] ys d = subst AllDistinct (sym (append-nil ys)) d
distinct_parts (x ∷ xs) ys d = distinct_among x ys xs (λ i. d.0 (in_parts x ys xs i)) (distinct_parts xs ys d.1)

-- one more at the end that was not there
pub distinct_end : {X : Type 0} (y : X) (xs : List X) → AllDistinct xs → (IsIn y xs → ⊥) → AllDistinct (xs ++ y ∷ [])
distinct_end y [] d none = (λ i. i, tt)
distinct_end y (x ∷ xs) d none = (λ i. distinct (in_either x xs (y ∷ []) i), distinct_end y xs d.1 (λ i. none (inr i)))
  where
    distinct : IsIn x xs ⊎ IsIn x (y ∷ []) → ⊥
    distinct (inl i) = d.0 i
    distinct (inr (inl s)) = none (inl (sym s))
    distinct (inr (inr i)) = i

-- ---- those who pass a test

pub filter_in : {X : Type 0} (test : X → Bool) (y : X) (xs : List X) → IsIn y (filter test xs) → IsIn y xs
filter_in test y [] i = i
filter_in test y (x ∷ xs) i = go (test x) (filter_in test y xs) i
  where
    go : (v : Bool) → (IsIn y (filter test xs) → IsIn y xs) → IsIn y (cond v (x ∷ filter test xs) (filter test xs)) → IsIn y (x ∷ xs)
    go true more (inl s) = inl s
    go true more (inr j) = inr (more j)
    go false more j = inr (more j)

pub filter_distinct : {X : Type 0} (test : X → Bool) (xs : List X) → AllDistinct xs → AllDistinct (filter test xs)
filter_distinct test [] d = d
filter_distinct test (x ∷ xs) d = go (test x) (filter_distinct test xs d.1)
  where
    go : (v : Bool) → AllDistinct (filter test xs) → AllDistinct (cond v (x ∷ filter test xs) (filter test xs))
    go true rest = (λ i. d.0 (filter_in test x xs i), rest)
    go false rest = rest

pub passes : {X : Type 0} (test : X → Bool) (y : X) (xs : List X) → IsIn y (filter test xs) → test y ≡ true
passes test y [] i = absurd i
passes test y (x ∷ xs) i = go (test x) refl i (passes test y xs)
  where
    go : (v : Bool) → test x ≡ v → IsIn y (cond v (x ∷ filter test xs) (filter test xs)) → (IsIn y (filter test xs) → test y ≡ true) → test y ≡ true
    go true e (inl s) rest = ap test s ∙ e
    go true e (inr j) rest = rest j
    go false e j rest = rest j

-- of those who pass a weaker test
pub filter_twice : {X : Type 0} (f g : X → Bool) (xs : List X) → ((x : X) → f x ≡ true → g x ≡ true) → filter f (filter g xs) ≡ filter f xs
filter_twice f g [] sub = refl
filter_twice f g (x ∷ xs) sub = go (g x) (f x) refl refl (filter_twice f g xs sub)
  where
    go : (u v : Bool) → g x ≡ u → f x ≡ v → filter f (filter g xs) ≡ filter f xs → filter f (cond u (x ∷ filter g xs) (filter g xs)) ≡ cond v (x ∷ filter f xs) (filter f xs)
    go true v a b more = subst (λ (w : Bool). cond w (x ∷ filter f (filter g xs)) (filter f (filter g xs)) ≡ cond v (x ∷ filter f xs) (filter f xs)) (sym b) (ap (λ (ys : List _). cond v (x ∷ ys) ys) more)
    go false true a b more = absurd (false≢true (sym a ∙ sub x b))
    go false false a b more = more

-- where all pass, all stay
pub filter_all : {X : Type 0} (test : X → Bool) (xs : List X) → ((x : X) → IsIn x xs → test x ≡ true) → filter test xs ≡ xs
filter_all test [] all = refl
filter_all test (x ∷ xs) all = go (test x) (all x (inl refl)) (filter_all test xs (λ y i. all y (inr i)))
  where
    go : (v : Bool) → v ≡ true → filter test xs ≡ xs → cond v (x ∷ filter test xs) (filter test xs) ≡ x ∷ xs
    go true e more = ap (λ (ys : List _). x ∷ ys) more
    go false e more = absurd (false≢true e)

-- whoever passes stays
pub stays : {X : Type 0} (test : X → Bool) (p : X) (xs : List X) → IsIn p xs → test p ≡ true → IsIn p (filter test xs)
stays test p [] i e = absurd i
stays test p (x ∷ xs) (inl s) e = subst (λ (v : Bool). IsIn p (cond v (x ∷ filter test xs) (filter test xs))) (sym (ap test (sym s) ∙ e)) (inl s)
stays test p (x ∷ xs) (inr i) e = go (test x) (stays test p xs i e)
  where
    go : (v : Bool) → IsIn p (filter test xs) → IsIn p (cond v (x ∷ filter test xs) (filter test xs))
    go true more = inr more
    go false more = more

-- ---- how many are before one

module _ {X : Type 0} (is : X → Bool) (p : X) (own : is p ≡ true) (only : (x : X) → is x ≡ true → p ≡ x) where
  -- where fewer pass, but this one if it may
  pub fewer : (f g : X → Bool) (xs : List X) → ((x : X) → IsIn x xs → f x ≡ true → g x ≡ true) → (g p ≡ true → f p ≡ true) → count_before is (filter f xs) ≤ count_before is (filter g xs)
  fewer f g [] sub its = omega arith
  fewer f g (x ∷ xs) sub its = go (f x) (g x) (is x) refl refl refl (fewer f g xs (λ y i. sub y (inr i)) its)
    where
      go : (u v w : Bool) → f x ≡ u → g x ≡ v → is x ≡ w → count_before is (filter f xs) ≤ count_before is (filter g xs)
          → count_before is (cond u (x ∷ filter f xs) (filter f xs)) ≤ count_before is (cond v (x ∷ filter g xs) (filter g xs))
      go true true w a b e le = subst (λ (z : Bool). (if z then 0 else 1 + count_before is (filter f xs)) ≤ (if z then 0 else 1 + count_before is (filter g xs))) (sym e) (by w)
        where
          by : (z : Bool) → (if z then 0 else 1 + count_before is (filter f xs)) ≤ (if z then 0 else 1 + count_before is (filter g xs))
          by true = omega arith
          by false = omega (arith, le)
      go true false w a b e le = absurd (false≢true (sym b ∙ sub x (inl refl) a))
      go false true true a b e le = absurd (false≢true (sym a ∙ ap f (sym (only x e)) ∙ its (ap g (only x e) ∙ b)))
      go false true false a b e le = subst (λ (z : Bool). count_before is (filter f xs) ≤ (if z then 0 else 1 + count_before is (filter g xs))) (sym e) (omega (arith, le))
      go false false w a b e le = le
