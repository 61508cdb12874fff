-- What stands in blocks, one after another.
use Rattle.queue.proofs.Names.{◌≡◌, ℕ, zero, suc, ◌+◌, ◌<◌, ◌≤◌, List, [], ◌∷◌, ◌++◌, length, get_or, map, filter, refl, sym, ap, ◌∙◌, arith, Bool, true, false, cond, Option, Some, None, find, is_some, append_assoc, append-nil, false≢true, change_first, without_first, num, tally, joined, some_pass}
use Rattle.std.proofs.Common.{not}
use Rattle.std.proofs.Math.ListN.{set}

-- ---- two lists, one behind the other

pub find-front : {X : Type 0} (p : X → Bool) (xs ys : List X) → some_pass p xs ≡ true → find p (xs ++ ys) ≡ find p xs
find-front p [] ys h = absurd (false≢true h)
find-front {X = X} p (x ∷ xs) ys h = go (p x) (find-front p xs ys) h
  where
    go : (b : Bool) → (some_pass p xs ≡ true → find p (xs ++ ys) ≡ find p xs) → is_some (cond b (Some x) (find p xs)) ≡ true → cond b (Some x) (find p (xs ++ ys)) ≡ cond b (Some x) (find p xs)
    go true r h = refl
    go false r h = r h

pub find-behind : {X : Type 0} (p : X → Bool) (xs ys : List X) → some_pass p xs ≡ false → find p (xs ++ ys) ≡ find p ys
find-behind p [] ys h = refl
find-behind {X = X} p (x ∷ xs) ys h = go (p x) (find-behind p xs ys) h
  where
    go : (b : Bool) → (some_pass p xs ≡ false → find p (xs ++ ys) ≡ find p ys) → is_some (cond b (Some x) (find p xs)) ≡ false → cond b (Some x) (find p (xs ++ ys)) ≡ find p ys
    go true r h = absurd (false≢true (sym h))
    go false r h = r h

change-front : {X : Type 0} (p : X → Bool) (f : X → X) (xs ys : List X) → some_pass p xs ≡ true → change_first p f (xs ++ ys) ≡ change_first p f xs ++ ys
change-front p f [] ys h = absurd (false≢true h)
change-front {X = X} p f (x ∷ xs) ys h = go (p x) (change-front p f xs ys) h
  where
    go : (b : Bool) → (some_pass p xs ≡ true → change_first p f (xs ++ ys) ≡ change_first p f xs ++ ys) → is_some (cond b (Some x) (find p xs)) ≡ true
        → cond b (f x ∷ xs ++ ys) (x ∷ change_first p f (xs ++ ys)) ≡ cond b (f x ∷ xs) (x ∷ change_first p f xs) ++ ys
    go true r h = refl
    go false r h = ap (λ (zs : List X). x ∷ zs) (r h)

change-behind : {X : Type 0} (p : X → Bool) (f : X → X) (xs ys : List X) → some_pass p xs ≡ false → change_first p f (xs ++ ys) ≡ xs ++ change_first p f ys
change-behind p f [] ys h = refl
change-behind {X = X} p f (x ∷ xs) ys h = go (p x) (change-behind p f xs ys) h
  where
    go : (b : Bool) → (some_pass p xs ≡ false → change_first p f (xs ++ ys) ≡ xs ++ change_first p f ys) → is_some (cond b (Some x) (find p xs)) ≡ false
        → cond b (f x ∷ xs ++ ys) (x ∷ change_first p f (xs ++ ys)) ≡ x ∷ xs ++ change_first p f ys
    go true r h = absurd (false≢true (sym h))
    go false r h = ap (λ (zs : List X). x ∷ zs) (r h)

without-front : {X : Type 0} (p : X → Bool) (xs ys : List X) → some_pass p xs ≡ true → without_first p (xs ++ ys) ≡ without_first p xs ++ ys
without-front p [] ys h = absurd (false≢true h)
without-front {X = X} p (x ∷ xs) ys h = go (p x) (without-front p xs ys) h
  where
    go : (b : Bool) → (some_pass p xs ≡ true → without_first p (xs ++ ys) ≡ without_first p xs ++ ys) → is_some (cond b (Some x) (find p xs)) ≡ true
        → cond b (xs ++ ys) (x ∷ without_first p (xs ++ ys)) ≡ cond b xs (x ∷ without_first p xs) ++ ys
    go true r h = refl
    go false r h = ap (λ (zs : List X). x ∷ zs) (r h)

without-behind : {X : Type 0} (p : X → Bool) (xs ys : List X) → some_pass p xs ≡ false → without_first p (xs ++ ys) ≡ xs ++ without_first p ys
without-behind p [] ys h = refl
without-behind {X = X} p (x ∷ xs) ys h = go (p x) (without-behind p xs ys) h
  where
    go : (b : Bool) → (some_pass p xs ≡ false → without_first p (xs ++ ys) ≡ xs ++ without_first p ys) → is_some (cond b (Some x) (find p xs)) ≡ false
        → cond b (xs ++ ys) (x ∷ without_first p (xs ++ ys)) ≡ x ∷ xs ++ without_first p ys
    go true r h = absurd (false≢true (sym h))
    go false r h = ap (λ (zs : List X). x ∷ zs) (r h)

pub tally-both : {X : Type 0} (p : X → Bool) (xs ys : List X) → tally p (xs ++ ys) ≡ tally p xs + tally p ys
tally-both p [] ys = omega arith
tally-both p (x ∷ xs) ys = let r = tally-both p xs ys in omega arith

pub counted_one : {X : Type 0} (p : X → Bool) (xs : List X) → some_pass p xs ≡ true → 1 ≤ tally p xs
counted_one p [] h = absurd (false≢true h)
counted_one p (x ∷ xs) h = go (p x) (counted_one p xs) h
  where
    go : (b : Bool) → (some_pass p xs ≡ true → 1 ≤ tally p xs) → is_some (cond b (Some x) (find p xs)) ≡ true → 1 ≤ num b + tally p xs
    go true r h = omega arith
    go false r h = let c = r h in omega arith

pub none_pass : {X : Type 0} (p : X → Bool) (xs : List X) → tally p xs ≡ 0 → some_pass p xs ≡ false
none_pass p [] e = refl
none_pass p (x ∷ xs) e = go (p x) (none_pass p xs) e
  where
    go : (b : Bool) → (tally p xs ≡ 0 → some_pass p xs ≡ false) → num b + tally p xs ≡ 0 → is_some (cond b (Some x) (find p xs)) ≡ false
    go true r e = absurd (omega arith)
    go false r e = r (omega arith)

pub not_found : {X : Type 0} (p : X → Bool) (xs : List X) → find p xs ≡ None → tally p xs ≡ 0
not_found p [] e = refl
not_found p (x ∷ xs) e = go (p x) refl (not_found p xs) e
  where
    go : (b : Bool) → p x ≡ b → (find p xs ≡ None → tally p xs ≡ 0) → cond b (Some x) (find p xs) ≡ None → tally p (x ∷ xs) ≡ 0
    go true h r e = absurd (cc)
    go false h r e = let a = ap num h in let b = r e in omega arith

-- ---- the first block in which one passes

pub record FirstIn {X : Type 0} (p : X → Bool) (xss : List (List X)) (i : ℕ) : Type 0 where
  pub there : some_pass p (get_or xss i []) ≡ true
  pub before : (k : ℕ) → k < i → some_pass p (get_or xss k []) ≡ false

later : {X : Type 0} {p : X → Bool} {xs : List X} {xss : List (List X)} {i : ℕ} → FirstIn p (xs ∷ xss) (suc i) → FirstIn p xss i
later f = record { there = f.there; before = λ k lt. f.before (suc k) (omega arith) }

pub first_within : {X : Type 0} (p : X → Bool) (xss : List (List X)) (i : ℕ) → some_pass p (get_or xss i []) ≡ true → i < length xss
first_within p [] i h = absurd (false≢true h)
first_within p (xs ∷ xss) zero h = omega arith
first_within p (xs ∷ xss) (suc i) h = let r = first_within p xss i h in omega arith

pub joined_found : {X : Type 0} (p : X → Bool) (xss : List (List X)) (i : ℕ) → FirstIn p xss i → find p (joined xss) ≡ find p (get_or xss i [])
joined_found p [] i f = absurd (false≢true f.there)
joined_found p (xs ∷ xss) zero f = find-front p xs (joined xss) f.there
joined_found p (xs ∷ xss) (suc i) f = find-behind p xs (joined xss) (f.before 0 (omega arith)) ∙ joined_found p xss i (later f)

pub joined_changed : {X : Type 0} (p : X → Bool) (g : X → X) (xss : List (List X)) (i : ℕ) → FirstIn p xss i
    → change_first p g (joined xss) ≡ joined (set xss i (change_first p g (get_or xss i [])))
joined_changed p g [] i f = absurd (false≢true f.there)
joined_changed p g (xs ∷ xss) zero f = change-front p g xs (joined xss) f.there
joined_changed {X = X} p g (xs ∷ xss) (suc i) f = change-behind p g xs (joined xss) (f.before 0 (omega arith)) ∙ ap (λ (zs : List X). xs ++ zs) (joined_changed p g xss i (later f))

pub joined_without : {X : Type 0} (p : X → Bool) (xss : List (List X)) (i : ℕ) → FirstIn p xss i
    → without_first p (joined xss) ≡ joined (set xss i (without_first p (get_or xss i [])))
joined_without p [] i f = absurd (false≢true f.there)
joined_without p (xs ∷ xss) zero f = without-front p xs (joined xss) f.there
joined_without {X = X} p (xs ∷ xss) (suc i) f = without-behind p xs (joined xss) (f.before 0 (omega arith)) ∙ ap (λ (zs : List X). xs ++ zs) (joined_without p xss i (later f))

-- ---- none passes

pub joined_none : {X : Type 0} (p : X → Bool) (xss : List (List X)) → ((k : ℕ) → some_pass p (get_or xss k []) ≡ false) → find p (joined xss) ≡ None
joined_none p [] h = refl
joined_none p (xs ∷ xss) h = find-behind p xs (joined xss) (h 0) ∙ joined_none p xss (λ k. h (suc k))

pub none_changed_in : {X : Type 0} (p : X → Bool) (g : X → X) (xs : List X) → find p xs ≡ None → change_first p g xs ≡ xs
none_changed_in p g [] h = refl
none_changed_in {X = X} p g (x ∷ xs) h = go (p x) (none_changed_in p g xs) h
  where
    go : (b : Bool) → (find p xs ≡ None → change_first p g xs ≡ xs) → cond b (Some x) (find p xs) ≡ None → cond b (g x ∷ xs) (x ∷ change_first p g xs) ≡ x ∷ xs
    go true r h = absurd (cc)
    go false r h = ap (λ (zs : List X). x ∷ zs) (r h)

pub none_without_in : {X : Type 0} (p : X → Bool) (xs : List X) → find p xs ≡ None → without_first p xs ≡ xs
none_without_in p [] h = refl
none_without_in {X = X} p (x ∷ xs) h = go (p x) (none_without_in p xs) h
  where
    go : (b : Bool) → (find p xs ≡ None → without_first p xs ≡ xs) → cond b (Some x) (find p xs) ≡ None → cond b xs (x ∷ without_first p xs) ≡ x ∷ xs
    go true r h = absurd (cc)
    go false r h = ap (λ (zs : List X). x ∷ zs) (r h)

-- ---- at most one passes

tally-part : {X : Type 0} (p : X → Bool) (xss : List (List X)) (i : ℕ) → tally p (get_or xss i []) ≤ tally p (joined xss)
tally-part p [] i = omega arith
tally-part p (xs ∷ xss) zero = let e = tally-both p xs (joined xss) in omega arith
tally-part p (xs ∷ xss) (suc i) = let e = tally-both p xs (joined xss) in let r = tally-part p xss i in omega arith

pub part_once : {X : Type 0} (p : X → Bool) (xss : List (List X)) (i : ℕ) → tally p (joined xss) ≤ 1 → tally p (get_or xss i []) ≤ 1
part_once p xss i le = let r = tally-part p xss i in omega arith

before_once : {X : Type 0} (p : X → Bool) (xss : List (List X)) (i k : ℕ) → k < i → some_pass p (get_or xss i []) ≡ true → tally p (joined xss) ≤ 1 → some_pass p (get_or xss k []) ≡ false
before_once p [] i k lt h le = absurd (false≢true h)
before_once p (xs ∷ xss) zero k lt h le = absurd (omega arith)
before_once p (xs ∷ xss) (suc i) zero lt h le = none_pass p xs (let e = tally-both p xs (joined xss) in let c = counted_one p (get_or xss i []) h in let r = tally-part p xss i in omega arith)
before_once p (xs ∷ xss) (suc i) (suc k) lt h le = before_once p xss i k (omega arith) h (let e = tally-both p xs (joined xss) in omega arith)

pub only_in : {X : Type 0} (p : X → Bool) (xss : List (List X)) (i : ℕ) → some_pass p (get_or xss i []) ≡ true → tally p (joined xss) ≤ 1 → FirstIn p xss i
only_in p xss i h le = record { there = h; before = λ k lt. before_once p xss i k lt h le }

pub mapped_none : {X : Type 0} (p : X → Bool) (f : X → X) → ((x : X) → p x ≡ false → f x ≡ x) → (xs : List X) → tally p xs ≡ 0 → map f xs ≡ xs
mapped_none p f same [] e = refl
mapped_none {X = X} p f same (x ∷ xs) e = go (p x) refl (mapped_none p f same xs) e
  where
    go : (b : Bool) → p x ≡ b → (tally p xs ≡ 0 → map f xs ≡ xs) → num b + tally p xs ≡ 0 → f x ∷ map f xs ≡ x ∷ xs
    go true h r e = absurd (omega arith)
    go false h r e = ap (λ (y : X). y ∷ map f xs) (same x h) ∙ ap (λ (ys : List X). x ∷ ys) (r (omega arith))

pub left_out_none : {X : Type 0} (p : X → Bool) (xs : List X) → tally p xs ≡ 0 → filter (λ x. not (p x)) xs ≡ xs
left_out_none p [] e = refl
left_out_none {X = X} p (x ∷ xs) e = go (p x) (left_out_none p xs) e
  where
    go : (b : Bool) → (tally p xs ≡ 0 → filter (λ y. not (p y)) xs ≡ xs) → num b + tally p xs ≡ 0 → cond (not b) (x ∷ filter (λ y. not (p y)) xs) (filter (λ y. not (p y)) xs) ≡ x ∷ xs
    go true r e = absurd (omega arith)
    go false r e = ap (λ (ys : List X). x ∷ ys) (r (omega arith))

-- all that pass are changed, where at most one does
pub once_mapped : {X : Type 0} (p : X → Bool) (f g : X → X) → ((x : X) → p x ≡ false → f x ≡ x) → ((x : X) → p x ≡ true → f x ≡ g x) → (xs : List X) → tally p xs ≤ 1 → map f xs ≡ change_first p g xs
once_mapped p f g same there [] le = refl
once_mapped {X = X} p f g same there (x ∷ xs) le = go (p x) refl (mapped_none p f same xs) (once_mapped p f g same there xs) le
  where
    go : (b : Bool) → p x ≡ b → (tally p xs ≡ 0 → map f xs ≡ xs) → (tally p xs ≤ 1 → map f xs ≡ change_first p g xs) → num b + tally p xs ≤ 1 → f x ∷ map f xs ≡ cond b (g x ∷ xs) (x ∷ change_first p g xs)
    go true h n r le = ap (λ (y : X). y ∷ map f xs) (there x h) ∙ ap (λ (ys : List X). g x ∷ ys) (n (omega arith))
    go false h n r le = ap (λ (y : X). y ∷ map f xs) (same x h) ∙ ap (λ (ys : List X). x ∷ ys) (r (omega arith))

-- all that pass are left out, where at most one does
pub once_left_out : {X : Type 0} (p : X → Bool) (xs : List X) → tally p xs ≤ 1 → filter (λ x. not (p x)) xs ≡ without_first p xs
once_left_out p [] le = refl
once_left_out {X = X} p (x ∷ xs) le = go (p x) (left_out_none p xs) (once_left_out p xs) le
  where
    go : (b : Bool) → (tally p xs ≡ 0 → filter (λ z. not (p z)) xs ≡ xs) → (tally p xs ≤ 1 → filter (λ z. not (p z)) xs ≡ without_first p xs) → num b + tally p xs ≤ 1
        → cond (not b) (x ∷ filter (λ z. not (p z)) xs) (filter (λ z. not (p z)) xs) ≡ cond b xs (x ∷ without_first p xs)
    go true n r le = n (omega arith)
    go false n r le = ap (λ (zs : List X). x ∷ zs) (r (omega arith))

-- ---- the last block

pub joined_end : {X : Type 0} (xss : List (List X)) (i : ℕ) (ys : List X) → i + 1 ≡ length xss → joined (set xss i (get_or xss i [] ++ ys)) ≡ joined xss ++ ys
joined_end [] i ys e = absurd (omega arith)
joined_end (xs ∷ []) zero ys e = append-nil (xs ++ ys) ∙ ap (λ (zs : List _). zs ++ ys) (sym (append-nil xs))
joined_end (xs ∷ zs ∷ xss) zero ys e = absurd (omega arith)
joined_end {X = X} (xs ∷ xss) (suc i) ys e = ap (λ (zs : List X). xs ++ zs) (joined_end xss i ys (omega arith)) ∙ sym (append_assoc xs (joined xss) ys)

pub joined_nothing : {X : Type 0} (xss : List (List X)) → joined (xss ++ [] ∷ []) ≡ joined xss
joined_nothing [] = refl
joined_nothing {X = X} (xs ∷ xss) = ap (λ (zs : List X). xs ++ zs) (joined_nothing xss)

pub joined_mapped : {X : Type 0} (f : X → X) (xss : List (List X)) → joined (map (λ (xs : List X). map f xs) xss) ≡ map f (joined xss)
joined_mapped f [] = refl
joined_mapped {X = X} f (xs ∷ xss) = ap (λ (zs : List X). map f xs ++ zs) (joined_mapped f xss) ∙ sym (mapped-both xs (joined xss))
  where
    mapped-both : (ys ws : List X) → map f (ys ++ ws) ≡ map f ys ++ map f ws
    mapped-both [] ws = refl
    mapped-both (y ∷ ys) ws = ap (λ (zs : List X). f y ∷ zs) (mapped-both ys ws)

-- where none passes, none does in a block
pub nowhere_in : {X : Type 0} (p : X → Bool) (xss : List (List X)) (i : ℕ) → tally p (joined xss) ≡ 0 → find p (get_or xss i []) ≡ None
nowhere_in p xss i z = none_there (find p (get_or xss i [])) (none_pass p (get_or xss i []) (let r = tally-part p xss i in omega arith))
  where
    none_there : {Y : Type 0} (o : Option Y) → is_some o ≡ false → o ≡ None
    none_there None h = refl
    none_there (Some y) h = absurd (false≢true (sym h))
