-- Entries that are taken out: all that pass a test, or the first.
use Rattle.depot.proofs.Names.{◌≡◌, ℕ, ◌+◌, ◌≤◌, List, [], ◌∷◌, Bool, true, false, cond, refl, sym, ap, ◌∙◌, filter, arith, Some, None, count_by, ◌&&◌, eqb-true, ne_eqb, false≢true, is_held_as, without_first, Entry, Holder, Ready}
use Rattle.std.proofs.Common.{not}
use Rattle.std.specs.Prelude.{find, ◌==◌, if◌then◌else◌}
use Rattle.std.proofs.lemmas.List.Sums.{sum_by-cons}
use Rattle.model.specs.declared.messages.Mark.{Mark}
use Rattle.model.specs.declared.messages.Mark.TheVariants.{Held}

-- 1 for yes, 0 for no
abbrev pub number : Bool → ℕ
number b = cond b 1 0

-- what the first adds to a count
pub count-cons : {A : Type 0} (p : A → Bool) (x : A) (xs : List A) → count_by p (x ∷ xs) ≡ number (p x) + count_by p xs
count-cons p x xs = sum_by-cons (λ x. cond (p x) 1 0) x xs

-- where none passes, none is taken out
pub none_passes : {A : Type 0} (p : A → Bool) (xs : List A) → count_by p xs ≡ 0 → filter (λ x. not (p x)) xs ≡ xs
none_passes p [] e = refl
none_passes {A} p (x ∷ xs) e = go (p x) refl (none_passes p xs)
  where
    go : (v : Bool) → p x ≡ v → (count_by p xs ≡ 0 → filter (λ y. not (p y)) xs ≡ xs) → cond (not v) (x ∷ filter (λ y. not (p y)) xs) (filter (λ y. not (p y)) xs) ≡ x ∷ xs
    go true is rest = let n = count-cons p x xs in let one = ap number is in absurd (omega (arith, e, n, one))
    go false is rest = let n = count-cons p x xs in let none = ap number is in ap (λ (ys : List A). x ∷ ys) (rest (omega (arith, e, n, none)))

-- where at most one passes, to take out all that pass is to take out the first
pub one_passes : {A : Type 0} (p : A → Bool) (xs : List A) → count_by p xs ≤ 1 → filter (λ x. not (p x)) xs ≡ without_first p xs
one_passes p [] le = refl
one_passes {A} p (x ∷ xs) le = go (p x) refl (one_passes p xs)
  where
    go : (v : Bool) → p x ≡ v → (count_by p xs ≤ 1 → filter (λ y. not (p y)) xs ≡ without_first p xs) → cond (not v) (x ∷ filter (λ y. not (p y)) xs) (filter (λ y. not (p y)) xs) ≡ (if v then xs else x ∷ without_first p xs)
    go true is rest = let n = count-cons p x xs in let one = ap number is in none_passes p xs (omega (arith, le, n, one))
    go false is rest = let n = count-cons p x xs in ap (λ (ys : List A). x ∷ ys) (rest (omega (arith, le, n)))

-- where none is found, none is taken out
pub none_found : {A : Type 0} (p : A → Bool) (xs : List A) → find p xs ≡ None → without_first p xs ≡ xs
none_found p [] e = refl
none_found {A} p (x ∷ xs) e = go (p x) e (none_found p xs)
  where
    go : (v : Bool) → cond v (Some x) (find p xs) ≡ None → (find p xs ≡ None → without_first p xs ≡ xs) → (if v then xs else x ∷ without_first p xs) ≡ x ∷ xs
    go true h rest = absurd (cc)
    go false h rest = ap (λ (ys : List A). x ∷ ys) (rest h)

-- some of them contain at most as many that pass
pub count-filter : {A : Type 0} (p q : A → Bool) (xs : List A) → count_by p (filter q xs) ≤ count_by p xs
count-filter p q [] = omega arith
count-filter {A} p q (x ∷ xs) = go (q x) (count-filter p q xs)
  where
    go : (v : Bool) → count_by p (filter q xs) ≤ count_by p xs → count_by p (cond v (x ∷ filter q xs) (filter q xs)) ≤ count_by p (x ∷ xs)
    go true le = let n = count-cons p x xs in let m = count-cons p x (filter q xs) in omega (arith, le, n, m)
    go false le = let n = count-cons p x xs in omega (arith, le, n)

-- the first that passes is found as well where others are taken out
pub find-filter : {A : Type 0} (p q : A → Bool) → ((x : A) → p x ≡ true → q x ≡ false) → (xs : List A) → find p (filter (λ x. not (q x)) xs) ≡ find p xs
find-filter p q distinct [] = refl
find-filter {A} p q distinct (x ∷ xs) = go (p x) refl (q x) refl (find-filter p q distinct xs)
  where
    rest : List A
    rest = filter (λ y. not (q y)) xs

    go : (v : Bool) → p x ≡ v → (w : Bool) → q x ≡ w → find p rest ≡ find p xs → find p (cond (not w) (x ∷ rest) rest) ≡ cond v (Some x) (find p xs)
    go true e true f more = absurd (false≢true (sym (distinct x e) ∙ f))
    go true e false f more = ap (λ (b : Bool). cond b (Some x) (find p rest)) e
    go false e true f more = more
    go false e false f more = ap (λ (b : Bool). cond b (Some x) (find p rest)) e ∙ more

-- an entry that is held under one tag is not held under another
pub held_apart : (a b : Holder) → ((a.tag ≡ b.tag) → ⊥) → (e : Entry) → is_held_as a e ≡ true → is_held_as b e ≡ false
held_apart a b ne e is = go e.mark is
  where
    go : (m : Mark) → is_held_as a (record { message = e.message; mark = m }) ≡ true → is_held_as b (record { message = e.message; mark = m }) ≡ false
    go Ready at = refl
    go (Held k) at = other (k.connection == b.connection && k.channel == b.channel) (ne_eqb k.tag b.tag (λ t. ne (sym (eqb-true k.tag a.tag (second (k.connection == a.connection && k.channel == a.channel) (k.tag == a.tag) at)) ∙ t)))
      where
        second : (v w : Bool) → (v && w) ≡ true → w ≡ true
        second true w f = f
        second false w f = absurd (false≢true f)

        other : (v : Bool) → (k.tag == b.tag) ≡ false → (v && (k.tag == b.tag)) ≡ false
        other true f = f
        other false f = refl
