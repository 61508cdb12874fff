-- Turns, one after another, and the room for them.
use Rattle.depot.proofs.Names.{◌≡◌, ℕ, suc, ◌+◌, ◌<◌, ◌≤◌, List, [], ◌∷◌, Bool, true, false, cond, length, get_or, refl, sym, ap, arith, All, AllPairs, inl, inr, ◌⊎◌, ◌||◌, Option, Some, None, eqb-true, ne_eqb, eqb_tells, Message, Line, arriving, room_at, times, LinesHaveRoom, IsRoomy}
use Rattle.std.specs.Prelude.{◌==◌}

pub within_rest : (n : ℕ) (i : ℕ) (is : List ℕ) → All (λ (j : ℕ). j < n) (i ∷ is) → All (λ (j : ℕ). j < n) is
within_rest n i is h = λ k d lt. h (suc k) d (omega arith)

pub rising_rest : (i : ℕ) (is : List ℕ) → AllPairs (λ (j k : ℕ). j < k) (i ∷ is) → AllPairs (λ (j k : ℕ). j < k) is
rising_rest i is h = λ j k d lt within. h (suc j) (suc k) d (omega arith) (omega arith)

pub or_assoc : (a b c : Bool) → ((a || b) || c) ≡ (a || (b || c))
or_assoc true b c = refl
or_assoc false b c = refl

-- ---- room

pub few_arrive : (o : Option Message) → length (arriving o) ≤ 1
few_arrive None = omega arith
few_arrive (Some m) = omega arith

-- 1 for yes, 0 for no
abbrev one_if : Bool → ℕ
one_if b = cond b 1 0

-- a place below all of these is none of them
times_above : (k : ℕ) (is : List ℕ) → ((j : ℕ) → j < length is → k < get_or is j 0) → times k is ≡ 0
times_above k [] above = refl
times_above k (i ∷ is) above =
    let lt : k < i = above 0 (omega arith) in
    let other : (k == i) ≡ false = ne_eqb k i (λ e. absurd (omega (arith, lt, e))) in
    let here : one_if (k == i) ≡ 0 = ap one_if other in
    let later : times k is ≡ 0 = times_above k is (λ j l. above (suc j) (omega arith)) in
    omega (arith, here, later)

-- of rising places each is there once
pub times_rising : (k : ℕ) (is : List ℕ) → AllPairs (λ (i j : ℕ). i < j) is → times k is ≤ 1
times_rising k [] rising = omega arith
times_rising k (i ∷ is) rising = go (k == i) refl (times_rising k is (rising_rest i is rising))
  where
    go : (b : Bool) → (k == i) ≡ b → times k is ≤ 1 → cond b 1 0 + times k is ≤ 1
    go true e le =
        let same : k ≡ i = eqb-true k i e in
        let none = times_above k is (λ j l. let lt : i < get_or is j 0 = rising 0 (suc j) 0 (omega arith) (omega arith) in omega (arith, lt, same)) in
        omega (arith, none)
    go false e le = omega (arith, le)

-- a place is one of these or is not
pub times_or : (k : ℕ) (is : List ℕ) → (times k is ≡ 0) ⊎ ((j : ℕ) × (j < length is) × (get_or is j 0 ≡ k))
times_or k [] = inl refl
times_or k (i ∷ is) = elim (eqb_tells k i) [
  | inl e ↦ inr (0, omega arith, sym e.1)
  | inr e ↦ (elim (times_or k is) [
    | inl none ↦ inl (let here : one_if (k == i) ≡ 0 = ap one_if e.0 in omega (arith, here, none))
    | inr there ↦ inr (suc there.0, (let lt = there.1 in omega (arith, lt)), there.2)
  ])
]

-- there is room wherever there is room for as many as may come
pub roomy : (lines : List Line) (is : List ℕ) (n : ℕ) → LinesHaveRoom lines is n → ((k : ℕ) → times k is ≤ n) → IsRoomy lines is
roomy lines is n room few k = elim (times_or k is) [
  | inl none ↦ omega (arith, none)
  | inr there ↦ (let enough = room there.0 there.1 in let at = ap (λ (p : ℕ). room_at lines p) there.2 in let most = few k in omega (arith, enough, at, most))
]

-- room is made at one more place, and none is lost
pub room_more : (lines now : List Line) (is : List ℕ) (n i j p : ℕ) → j ≡ i + 1 → get_or is i 0 ≡ p → n ≤ room_at now p
    → ((k : ℕ) → room_at lines k ≤ room_at now k) → ((k : ℕ) → k < i → n ≤ room_at lines (get_or is k 0)) → (k : ℕ) → k < j → n ≤ room_at now (get_or is k 0)
room_more lines now is n i j p step at some kept before k lt = elim (eqb_tells k i) [
  | inl e ↦ (let here = ap (λ (m : ℕ). room_at now (get_or is m 0)) e.1 in let there = ap (λ (m : ℕ). room_at now m) at in omega (arith, here, there, some))
  | inr e ↦ (let other = e.1 in let had = before k (omega arith) in let more = kept (get_or is k 0) in omega arith)
]

-- the first place is one of these
pub here_once : (i : ℕ) (is : List ℕ) → 1 ≤ times i (i ∷ is)
here_once i is = elim (eqb_tells i i) [
  | inl e ↦ (let one : one_if (i == i) ≡ 1 = ap one_if e.0 in omega (arith, one))
  | inr e ↦ absurd (e.1 refl)
]
