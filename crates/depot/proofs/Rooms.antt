-- Room that is promised, spent and given back.
use Rattle.depot.proofs.Names.{◌≡◌, ℕ, zero, suc, ◌+◌, ◌<◌, ◌≤◌, List, [], ◌∷◌, ◌++◌, Bool, cond, length, get_or, set, take, refl, sym, ap, subst, ◌∙◌, arith, inl, inr, ◌⊎◌, Result, Ok, Err, OnOk, OnErr, eqb_tells, get_or-set_other, get_or-set_same, take_more, Line, Arrival, arriving_at, room_at, no_line, times, GainsNone, AreEmptied}
use Rattle.std.specs.Prelude.{◌==◌}

-- 1 for yes, 0 for no
abbrev one_if : Bool → ℕ
one_if b = cond b 1 0

pub zero_or : (n : ℕ) → (n ≡ 0) ⊎ (0 < n)
zero_or zero = inl refl
zero_or (suc n) = inr (omega arith)

-- ---- one queue

pub room_here : (lines : List Line) (i : ℕ) (l : Line) → i < length lines → room_at (set lines i l) i ≡ l.room
room_here lines i l lt = ap (λ (x : Line). x.room) (get_or-set_same lines i l no_line lt)

-- one queue is written: what holds of its room before and after, and of a room that stays, holds of each queue's
pub write_each : (R : ℕ → ℕ → ℕ → Type 0) (lines : List Line) (i : ℕ) (old new : Line) → i < length lines → old ≡ get_or lines i no_line → R 1 old.room new.room → ((n : ℕ) → R 0 n n)
    → (k : ℕ) → R (cond (k == i) 1 0) (room_at lines k) (room_at (set lines i new) k)
write_each R lines i old new lt is here other k = elim (eqb_tells k i) [
  | inl e ↦
      subst (λ (b : Bool). R (one_if b) (room_at lines k) (room_at (set lines i new) k)) (sym e.0)
      (subst (λ (j : ℕ). R 1 (room_at lines j) (room_at (set lines i new) j)) (sym e.1)
      (subst (λ (n : ℕ). R 1 (room_at lines i) n) (sym (room_here lines i new lt)) (subst (λ (l : Line). R 1 l.room new.room) is here)))
  | inr e ↦
      subst (λ (b : Bool). R (one_if b) (room_at lines k) (room_at (set lines i new) k)) (sym e.0)
      (subst (λ (l : Line). R 0 (room_at lines k) l.room) (sym (get_or-set_other lines i k new no_line e.1)) (other (room_at lines k)))
]

-- ---- one step after another

pub gains_more : (a b c : List Line) → GainsNone a b → GainsNone b c → GainsNone a c
gains_more a b c first next k = let f = first k in let n = next k in omega (arith, f, n)

pub emptied_more : (a b : List Line) (m s o : ℕ → ℕ) → ((k : ℕ) → o k ≡ m k + s k) → AreEmptied a m → GainsNone a b → AreEmptied b s → AreEmptied b o
emptied_more a b m s o sum first gains next k some = elim (zero_or (s k)) [
  | inl none ↦ (let all = sum k in let gone = first k (omega (arith, all, none, some)) in let le = gains k in omega (arith, gone, le))
  | inr here ↦ next k here
]

pub emptied_one : (lines : List Line) (i : ℕ) → room_at lines i ≡ 0 → AreEmptied lines (λ (k : ℕ). cond (k == i) 1 0)
emptied_one lines i none k some = elim (eqb_tells k i) [
  | inl e ↦ ap (λ (j : ℕ). room_at lines j) e.1 ∙ none
  | inr e ↦ (let z = ap one_if e.0 in absurd (omega (arith, z, some)))
]

-- ---- room for dead letters

-- one push more has room, or none
pub one_more : {X E : Type 0} (r : Result X E) (new old : ℕ) → OnOk r (new ≡ old + 1) → OnErr r (new ≡ old) → new ≤ old + 1
one_more (Ok x) new old more same = omega (arith, more)
one_more (Err e) new old more same = omega (arith, same)

-- ---- dead letters, one after another

arrivals_end : (k : ℕ) (as' : List Arrival) (a : Arrival) → times k (arriving_at (as' ++ a ∷ [])) ≡ times k (arriving_at as') + cond (k == a.place) 1 0
arrivals_end k [] a = omega arith
arrivals_end k (b ∷ bs) a = let more = arrivals_end k bs a in omega (arith, more)

pub arrivals_next : (k : ℕ) (as' : List Arrival) (i : ℕ) (a : Arrival) → i < length as' → a ≡ get_or as' i a → times k (arriving_at (take (i + 1) as')) ≡ times k (arriving_at (take i as')) + cond (k == a.place) 1 0
arrivals_next k as' i a lt at =
    ap (λ (xs : List Arrival). times k (arriving_at xs)) (take_more as' i a lt) ∙ arrivals_end k (take i as') (get_or as' i a)
    ∙ ap (λ (x : Arrival). times k (arriving_at (take i as')) + cond (k == x.place) 1 0) (sym at)

-- no more often than one of all
pub arrivals_fewer : (k : ℕ) (as' : List Arrival) (i : ℕ) → times k (arriving_at (take i as')) ≤ times k (arriving_at as')
arrivals_fewer k as' zero = omega arith
arrivals_fewer k [] (suc i) = omega arith
arrivals_fewer k (a ∷ as') (suc i) = let more = arrivals_fewer k as' i in omega (arith, more)

-- a queue is written with as much room
pub same_room : (lines : List Line) (i : ℕ) (l : Line) → l.room ≡ (get_or lines i no_line).room → (k : ℕ) → room_at (set lines i l) k ≡ room_at lines k
same_room [] i l e k = refl
same_room (x ∷ xs) zero l e zero = e
same_room (x ∷ xs) zero l e (suc k) = refl
same_room (x ∷ xs) (suc i) l e zero = refl
same_room (x ∷ xs) (suc i) l e (suc k) = same_room xs i l e k
