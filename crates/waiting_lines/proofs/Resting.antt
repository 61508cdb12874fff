-- Those before the one who is picked fall asleep, one after the other.
use Rattle.std.proofs.Common.{◌≡◌, ◌<◌, ◌++◌, ℕ, List, [], ◌∷◌, Bool, true, false, inl, inr, refl, sym, ap, subst, arith}
use Rattle.waiting_lines.specs.Order.{Member, FallsAsleep, IsNextAwake}
use Rattle.waiting_lines.specs.Picked.{Rest, count_awake}

module _ {X : Type 0} where
  pub rest_none : (cannot : X → Type 0) (ms : List (Member X)) → Rest cannot ms ms
  rest_none cannot [] = tt
  rest_none cannot (m ∷ ms) = (refl, inl refl, rest_none cannot ms)

  rest_one : (cannot : X → Type 0) (old front : List (Member X)) (x : X) (b : Bool) (back : List (Member X)) → cannot x
      → Rest cannot old (front ++ record { item = x; awake = b } ∷ back) → Rest cannot old (front ++ record { item = x; awake = false } ∷ back)
  rest_one cannot [] [] x b back not r = r
  rest_one cannot [] (n ∷ front) x b back not r = r
  rest_one cannot (m ∷ old) [] x b back not r = (r.0, inr (refl, subst cannot r.0 not), r.2)
  rest_one cannot (m ∷ old) (n ∷ front) x b back not r = (r.0, r.1, rest_one cannot old front x b back not r.2)

  pub fewer_awake : (front : List (Member X)) (x : X) (back : List (Member X))
      → count_awake (front ++ record { item = x; awake = false } ∷ back) < count_awake (front ++ record { item = x; awake = true } ∷ back)
  fewer_awake [] x back = omega arith
  fewer_awake (m ∷ front) x back = let less = fewer_awake front x back in omega (arith, less)

  -- the next one who is awake falls asleep
  module _ (now new : List (Member X)) (i : ℕ) (first : IsNextAwake now 0 i) (falls : FallsAsleep i now new) where
    abbrev asleep : Member X
    asleep = record { item = first.item; awake = false }

    then_is : new ≡ first.front ++ asleep ∷ first.back
    then_is = falls (record { item = first.item; awake = true }) first.front first.back first.here

    pub rests_on : (cannot : X → Type 0) (old : List (Member X)) → cannot first.item → Rest cannot old now → Rest cannot old new
    rests_on cannot old not r =
        subst (λ (ms : List (Member X)). Rest cannot old ms) (sym then_is)
        (rest_one cannot old first.front first.item true first.back not (subst (λ (ms : List (Member X)). Rest cannot old ms) first.here.was r))

    pub wakes_less : count_awake new < count_awake now
    wakes_less =
        let one = ap (λ (ms : List (Member X)). count_awake ms) then_is in
        let two = ap (λ (ms : List (Member X)). count_awake ms) first.here.was in
        let less = fewer_awake first.front first.item first.back in
        omega (arith, one, two, less)
