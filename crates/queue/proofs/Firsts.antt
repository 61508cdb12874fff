-- The first of a list that passes, by its place.
use Rattle.queue.proofs.Names.{◌≡◌, ℕ, suc, ◌+◌, ◌<◌, List, [], ◌∷◌, ◌++◌, length, get_or, take, drop, find, filter, refl, sym, ap, subst, arith, Bool, true, false, cond, Option, Some, None, position_from, change_first, without_first}
use Rattle.std.proofs.Common.{set}
use Rattle.std.specs.Prelude.{not}

-- It stands at this place.
pub record IsFirstAt {X : Type 0} (p : X → Bool) (xs : List X) (i : ℕ) : Type 0 where
  pub within : i < length xs
  pub found : (d : X) → find p xs ≡ Some (get_or xs i d)
  pub changed : (f : X → X) (d : X) → change_first p f xs ≡ set xs i (f (get_or xs i d))
  pub left : without_first p xs ≡ take i xs ++ drop (suc i) xs

here : {X : Type 0} (p : X → Bool) (x : X) (xs : List X) → p x ≡ true → IsFirstAt p (x ∷ xs) 0
here p x xs h = record { within = omega arith; found = λ d. rw h refl; changed = λ f d. rw h refl; left = rw h refl }

further : {X : Type 0} (p : X → Bool) (x : X) (xs : List X) (i : ℕ) → p x ≡ false → IsFirstAt p xs i → IsFirstAt p (x ∷ xs) (suc i)
further p x xs i h f = record {
  within = let w = f.within in omega arith;
  found = λ d. rw h (f.found d);
  changed = λ g d. rw h (ap (λ (ys : List _). x ∷ ys) (f.changed g d));
  left = rw h (ap (λ (ys : List _). x ∷ ys) f.left);
}

some_is : (i j : ℕ) → Some i ≡ Some j → i ≡ j
some_is i j e = cc

placed : {X : Type 0} (p : X → Bool) (k : ℕ) (xs : List X) (j : ℕ) → position_from p k xs ≡ Some j → (i : ℕ) × ((j ≡ k + i) × IsFirstAt p xs i)
placed p k [] j e = absurd (cc)
placed {X = X} p k (x ∷ xs) j e = go (p x) refl (placed p (k + 1) xs j) e
  where
    next : p x ≡ false → ((i : ℕ) × ((j ≡ (k + 1) + i) × IsFirstAt p xs i)) → (i : ℕ) × ((j ≡ k + i) × IsFirstAt p (x ∷ xs) i)
    next h (i, (q, f)) = (suc i, (omega arith, further p x xs i h f))

    go : (b : Bool) → p x ≡ b → (position_from p (k + 1) xs ≡ Some j → (i : ℕ) × ((j ≡ (k + 1) + i) × IsFirstAt p xs i))
        → cond b (Some k) (position_from p (k + 1) xs) ≡ Some j → (i : ℕ) × ((j ≡ k + i) × IsFirstAt p (x ∷ xs) i)
    go true h r q = (0, (let s = some_is k j q in omega arith, here p x xs h))
    go false h r q = next h (r q)

first_at : {X : Type 0} (p : X → Bool) (xs : List X) (j : ℕ) → Some j ≡ position_from p 0 xs → IsFirstAt p xs j
first_at {X = X} p xs j e = go (placed p 0 xs j (sym e))
  where
    go : ((i : ℕ) × ((j ≡ 0 + i) × IsFirstAt p xs i)) → IsFirstAt p xs j
    go (i, (q, f)) = subst (IsFirstAt p xs) (omega arith) f

-- so it is for a list that is the same
pub first_in : {X : Type 0} (p : X → Bool) {xs ys : List X} {j : ℕ} → ys ≡ xs → Some j ≡ position_from p 0 ys → IsFirstAt p xs j
first_in {X} p {xs} {ys} {j} same e = first_at p xs j (subst (λ (zs : List X). ◌≡◌ {A = Option ℕ} (Some j) (position_from p 0 zs)) same e)

-- None passes.
pub record IsNowhere {X : Type 0} (p : X → Bool) (xs : List X) : Type 0 where
  pub found : ◌≡◌ {A = Option X} (find p xs) None
  pub changed : (f : X → X) → change_first p f xs ≡ xs
  pub left : without_first p xs ≡ xs

nowhere : {X : Type 0} (p : X → Bool) (k : ℕ) (xs : List X) → ◌≡◌ {A = Option ℕ} None (position_from p k xs) → IsNowhere p xs
nowhere p k [] e = record { found = refl; changed = λ f. refl; left = refl }
nowhere {X = X} p k (x ∷ xs) e = go (p x) refl (nowhere p (k + 1) xs) e
  where
    on : p x ≡ false → IsNowhere p xs → IsNowhere p (x ∷ xs)
    on h r = record {
      found = rw h r.found;
      changed = λ f. rw h (ap (λ (ys : List X). x ∷ ys) (r.changed f));
      left = rw h (ap (λ (ys : List X). x ∷ ys) r.left);
    }

    go : (b : Bool) → p x ≡ b → (◌≡◌ {A = Option ℕ} None (position_from p (k + 1) xs) → IsNowhere p xs) → ◌≡◌ {A = Option ℕ} None (cond b (Some k) (position_from p (k + 1) xs)) → IsNowhere p (x ∷ xs)
    go true h r q = absurd (cc)
    go false h r q = on h (r q)

-- so it is for a list that is the same
pub nowhere_in : {X : Type 0} (p : X → Bool) {xs ys : List X} → ys ≡ xs → ◌≡◌ {A = Option ℕ} None (position_from p 0 ys) → IsNowhere p xs
nowhere_in {X} p {xs} same e = nowhere p 0 xs (subst (λ (zs : List X). ◌≡◌ {A = Option ℕ} None (position_from p 0 zs)) same e)

-- without it, those that don't pass are the same
pub rest_filtered : {X : Type 0} (p : X → Bool) (xs : List X) → filter (λ x. not (p x)) (without_first p xs) ≡ filter (λ x. not (p x)) xs
rest_filtered p [] = refl
rest_filtered {X = X} p (x ∷ xs) = go (p x) refl (rest_filtered p xs)
  where
    go : (b : Bool) → p x ≡ b → filter (λ y. not (p y)) (without_first p xs) ≡ filter (λ y. not (p y)) xs
        → filter (λ y. not (p y)) (cond b xs (x ∷ without_first p xs)) ≡ cond (not b) (x ∷ filter (λ y. not (p y)) xs) (filter (λ y. not (p y)) xs)
    go true i r = refl
    go false i r = rw i (ap (λ (ys : List X). x ∷ ys) r)
