-- Who is served (own).
use Rattle.std.specs.Prelude.{◌≡◌, ◌⊎◌, ◌+◌, ◌∷◌, ℕ, List, [], false, Option, Some, None, cond}
use Rattle.waiting_lines.specs.Order.{Member, IsNextAwake, AllAsleep, GoesLast}

-- each member is as it was; or it was awake and can't be served, and sleeps now
abbrev pub Rest : {X : Type 0} → (X → Type 0) → List (Member X) → List (Member X) → Type 0
Rest cannot [] [] = Unit {0}
Rest cannot [] (n ∷ ns) = ⊥
Rest cannot (m ∷ ms) [] = ⊥
Rest cannot (m ∷ ms) (n ∷ ns) = (n.item ≡ m.item) × ((n.awake ≡ m.awake) ⊎ ((n.awake ≡ false) × cannot m.item)) × Rest cannot ms ns

-- The first who is awake and can be served is `item`, and goes last, with those before it. Of those before it who were awake none can be served, and
-- they sleep.
pub record PicksOne {X : Type 0} (can cannot : X → Type 0) (old : List (Member X)) (item : X) (new : List (Member X)) : Type 0 where
  pub middle : List (Member X)
  pub rest : Rest cannot old middle
  pub turn : ℕ
  pub first : IsNextAwake middle 0 turn
  pub its : item ≡ first.item
  pub able : can item
  pub last : GoesLast turn middle new

-- one is picked, as `PicksOne` says; or all sleep, and those who were awake can't be served
abbrev pub Picks : {X : Type 0} → (X → Type 0) → (X → Type 0) → List (Member X) → Option X → List (Member X) → Type 0
Picks can cannot old (Some item) new = PicksOne can cannot old item new
Picks can cannot old None new = Rest cannot old new × AllAsleep new

-- how many are awake
abbrev pub count_awake : {X : Type 0} → List (Member X) → ℕ
count_awake [] = 0
count_awake (m ∷ ms) = cond m.awake 1 0 + count_awake ms
