-- Entries by their slots.
use Rattle.queue.proofs.Names.{◌≡◌, ℕ, zero, suc, ◌+◌, ◌<◌, ◌≤◌, List, [], ◌∷◌, ◌++◌, length, get_or, map, filter, refl, ap, ◌∙◌, arith, Bool, true, false, cond, Option, Some, None, find, is_some, false≢true, change_first, without_first, somes, slot_has, changed, num, tally}
use Rattle.std.proofs.Common.{not}
use Rattle.std.proofs.Math.ListN.{set}
use Rattle.queue.proofs.Joined.{left_out_none, mapped_none, none_changed_in, none_without_in, not_found, once_left_out, once_mapped}

pub num-some : (b : Bool) → num b ≡ 1 → b ≡ true
num-some true e = refl
num-some false e = absurd (cc)

pub num-none : (b : Bool) → num b ≡ 0 → b ≡ false
num-none true e = absurd (cc)
num-none false e = refl

-- a slot in which something stands that passes is there
pub within : {X : Type 0} (p : X → Bool) (slots : List (Option X)) (i : ℕ) → slot_has p (get_or slots i None) ≡ true → i < length slots
within p [] i h = absurd (false≢true h)
within p (x ∷ xs) zero h = omega arith
within p (x ∷ xs) (suc i) h = let r = within p xs i h in omega arith

-- ---- the first that passes

-- The first slot that passes.
pub record FirstAt {X : Type 0} (p : X → Bool) (slots : List (Option X)) (i : ℕ) : Type 0 where
  pub there : slot_has p (get_or slots i None) ≡ true
  pub before : (k : ℕ) → k < i → slot_has p (get_or slots k None) ≡ false

later : {X : Type 0} {p : X → Bool} {x : Option X} {xs : List (Option X)} {i : ℕ} → FirstAt p (x ∷ xs) (suc i) → FirstAt p xs i
later f = record { there = f.there; before = λ k lt. f.before (suc k) (omega arith) }

pub change_at : {X : Type 0} (p : X → Bool) (f : X → X) (slots : List (Option X)) (i : ℕ) → FirstAt p slots i
    → change_first p f (somes slots) ≡ somes (set slots i (changed f (get_or slots i None)))
change_at p f [] i h = absurd (false≢true h.there)
change_at p f (None ∷ xs) zero h = absurd (false≢true h.there)
change_at p f (Some x ∷ xs) zero h = rw h.there refl
change_at p f (None ∷ xs) (suc i) h = change_at p f xs i (later h)
change_at p f (Some x ∷ xs) (suc i) h = rw (h.before 0 (omega arith)) (ap (λ (ys : List _). x ∷ ys) (change_at p f xs i (later h)))

pub remove_at : {X : Type 0} (p : X → Bool) (slots : List (Option X)) (i : ℕ) → FirstAt p slots i → without_first p (somes slots) ≡ somes (set slots i None)
remove_at p [] i h = absurd (false≢true h.there)
remove_at p (None ∷ xs) zero h = absurd (false≢true h.there)
remove_at p (Some x ∷ xs) zero h = rw h.there refl
remove_at p (None ∷ xs) (suc i) h = remove_at p xs i (later h)
remove_at p (Some x ∷ xs) (suc i) h = rw (h.before 0 (omega arith)) (ap (λ (ys : List _). x ∷ ys) (remove_at p xs i (later h)))

pub find_at : {X : Type 0} (p : X → Bool) (slots : List (Option X)) (i : ℕ) → FirstAt p slots i → find p (somes slots) ≡ get_or slots i None
find_at p [] i h = absurd (false≢true h.there)
find_at p (None ∷ xs) zero h = absurd (false≢true h.there)
find_at p (Some x ∷ xs) zero h = rw h.there refl
find_at p (None ∷ xs) (suc i) h = find_at p xs i (later h)
find_at p (Some x ∷ xs) (suc i) h = rw (h.before 0 (omega arith)) (find_at p xs i (later h))

some_there : {X : Type 0} (p : X → Bool) (o : Option X) → slot_has p o ≡ true → is_some o ≡ true
some_there p None h = absurd (false≢true h)
some_there p (Some x) h = refl

pub some_at : {X : Type 0} (p : X → Bool) (slots : List (Option X)) (i : ℕ) → FirstAt p slots i → is_some (find p (somes slots)) ≡ true
some_at p slots i f = ap is_some (find_at p slots i f) ∙ some_there p (get_or slots i None) f.there

-- ---- none passes

pub record NonePasses {X : Type 0} (p : X → Bool) (slots : List (Option X)) : Type 0 where
  pub no : (k : ℕ) → slot_has p (get_or slots k None) ≡ false

none_later : {X : Type 0} {p : X → Bool} {x : Option X} {xs : List (Option X)} → NonePasses p (x ∷ xs) → NonePasses p xs
none_later n = record { no = λ k. n.no (suc k) }

pub none_found : {X : Type 0} (p : X → Bool) (slots : List (Option X)) → NonePasses p slots → find p (somes slots) ≡ None
none_found p [] h = refl
none_found p (None ∷ xs) h = none_found p xs (none_later h)
none_found p (Some x ∷ xs) h = rw (h.no 0) (none_found p xs (none_later h))

pub none_changed : {X : Type 0} (p : X → Bool) (f : X → X) (slots : List (Option X)) → NonePasses p slots → change_first p f (somes slots) ≡ somes slots
none_changed p f slots n = none_changed_in p f (somes slots) (none_found p slots n)

pub none_removed : {X : Type 0} (p : X → Bool) (slots : List (Option X)) → NonePasses p slots → without_first p (somes slots) ≡ somes slots
none_removed p slots n = none_without_in p (somes slots) (none_found p slots n)

pub none_mapped : {X : Type 0} (p : X → Bool) (f : X → X) → ((x : X) → p x ≡ false → f x ≡ x) → (slots : List (Option X)) → NonePasses p slots → map f (somes slots) ≡ somes slots
none_mapped p f same slots n = mapped_none p f same (somes slots) (not_found p (somes slots) (none_found p slots n))

pub none_left_out : {X : Type 0} (p : X → Bool) (slots : List (Option X)) → NonePasses p slots → filter (λ x. not (p x)) (somes slots) ≡ somes slots
none_left_out p slots n = left_out_none p (somes slots) (not_found p (somes slots) (none_found p slots n))

-- ---- how many pass

num-most : (b : Bool) → num b ≤ 1
num-most true = omega arith
num-most false = omega arith

pub tally-most : {X : Type 0} (p : X → Bool) (xs : List X) → tally p xs ≤ length xs
tally-most p [] = omega arith
tally-most p (x ∷ xs) = let r = tally-most p xs in let n = num-most (p x) in omega arith

pub tally-filter : {X : Type 0} (p : X → Bool) (xs : List X) → tally p xs ≡ length (filter p xs)
tally-filter p [] = refl
tally-filter p (x ∷ xs) = go (p x) (tally-filter p xs)
  where
    go : (b : Bool) → tally p xs ≡ length (filter p xs) → num b + tally p xs ≡ length (cond b (x ∷ filter p xs) (filter p xs))
    go true e = omega arith
    go false e = omega arith

pub counted : {X : Type 0} (p : X → Bool) (slots : List (Option X)) (i : ℕ) → slot_has p (get_or slots i None) ≡ true → 1 ≤ tally p (somes slots)
counted p [] i h = absurd (false≢true h)
counted p (None ∷ xs) zero h = absurd (false≢true h)
counted p (Some x ∷ xs) zero h = let n = ap num h in omega arith
counted p (None ∷ xs) (suc i) h = counted p xs i h
counted p (Some x ∷ xs) (suc i) h = let r = counted p xs i h in omega arith

-- one slot is written
pub count-set : {X : Type 0} (p : X → Bool) (slots : List (Option X)) (i : ℕ) (v : Option X) → i < length slots
    → tally p (somes (set slots i v)) + num (slot_has p (get_or slots i None)) ≡ tally p (somes slots) + num (slot_has p v)
count-set p [] i v lt = absurd (omega arith)
count-set p (None ∷ xs) zero None lt = refl
count-set p (None ∷ xs) zero (Some y) lt = omega arith
count-set p (Some x ∷ xs) zero None lt = omega arith
count-set p (Some x ∷ xs) zero (Some y) lt = omega arith
count-set p (None ∷ xs) (suc i) v lt = count-set p xs i v (omega arith)
count-set p (Some x ∷ xs) (suc i) v lt = let r = count-set p xs i v (omega arith) in omega arith

pub length-set : {X : Type 0} (slots : List (Option X)) (i : ℕ) (v : Option X) → i < length slots
    → length (somes (set slots i v)) + num (is_some (get_or slots i None)) ≡ length (somes slots) + num (is_some v)
length-set [] i v lt = absurd (omega arith)
length-set (None ∷ xs) zero None lt = refl
length-set (None ∷ xs) zero (Some y) lt = omega arith
length-set (Some x ∷ xs) zero None lt = omega arith
length-set (Some x ∷ xs) zero (Some y) lt = omega arith
length-set (None ∷ xs) (suc i) v lt = length-set xs i v (omega arith)
length-set (Some x ∷ xs) (suc i) v lt = let r = length-set xs i v (omega arith) in omega arith

pub somes-append : {X : Type 0} (xs ys : List (Option X)) → somes (xs ++ ys) ≡ somes xs ++ somes ys
somes-append [] ys = refl
somes-append (None ∷ xs) ys = somes-append xs ys
somes-append (Some x ∷ xs) ys = ap (λ (zs : List _). x ∷ zs) (somes-append xs ys)

pub somes-most : {X : Type 0} (slots : List (Option X)) → length (somes slots) ≤ length slots
somes-most [] = omega arith
somes-most (None ∷ xs) = let r = somes-most xs in omega arith
somes-most (Some x ∷ xs) = let r = somes-most xs in omega arith

-- ---- the only one that passes

pub record OnlyAt {X : Type 0} (p : X → Bool) (slots : List (Option X)) (i : ℕ) : Type 0 where
  pub there : slot_has p (get_or slots i None) ≡ true
  pub only : tally p (somes slots) ≤ 1

not_yet : {X : Type 0} (p : X → Bool) (x : X) (xs : List (Option X)) (i : ℕ) (b : Bool) → p x ≡ b → OnlyAt p (Some x ∷ xs) (suc i) → p x ≡ false
not_yet p x xs i true e h = absurd (let a = counted p xs i h.there in let n = ap num e in let o = h.only in omega arith)
not_yet p x xs i false e h = e

only_later : {X : Type 0} (p : X → Bool) (x : Option X) (xs : List (Option X)) (i : ℕ) → OnlyAt p (x ∷ xs) (suc i) → OnlyAt p xs i
only_later p None xs i h = record { there = h.there; only = h.only }
only_later p (Some x) xs i h = record { there = h.there; only = (let o = h.only in omega arith) }

-- it is the first
before_only : {X : Type 0} (p : X → Bool) (x : Option X) (xs : List (Option X)) (i k : ℕ) → k < suc i → OnlyAt p (x ∷ xs) (suc i) → FirstAt p xs i → slot_has p (get_or (x ∷ xs) k None) ≡ false
before_only p None xs i zero lt h f = refl
before_only p (Some x) xs i zero lt h f = not_yet p x xs i (p x) refl h
before_only p x xs i (suc k) lt h f = f.before k (omega arith)

pub only_first : {X : Type 0} (p : X → Bool) (slots : List (Option X)) (i : ℕ) → OnlyAt p slots i → FirstAt p slots i
only_first p [] i h = absurd (false≢true h.there)
only_first p (x ∷ xs) zero h = record { there = h.there; before = λ k lt. absurd (omega arith) }
only_first p (x ∷ xs) (suc i) h = record { there = h.there; before = λ k lt. before_only p x xs i k lt h (only_first p xs i (only_later p x xs i h)) }

-- all that pass are changed
pub only_mapped : {X : Type 0} (p : X → Bool) (f : X → X) → ((x : X) → p x ≡ false → f x ≡ x) → (slots : List (Option X)) (i : ℕ) → OnlyAt p slots i
    → map f (somes slots) ≡ somes (set slots i (changed f (get_or slots i None)))
only_mapped p f same slots i h = once_mapped p f f same (λ x e. refl) (somes slots) h.only ∙ change_at p f slots i (only_first p slots i h)

-- all that pass are left out
pub only_left_out : {X : Type 0} (p : X → Bool) (slots : List (Option X)) (i : ℕ) → OnlyAt p slots i → filter (λ x. not (p x)) (somes slots) ≡ somes (set slots i None)
only_left_out p slots i h = once_left_out p (somes slots) h.only ∙ remove_at p slots i (only_first p slots i h)
