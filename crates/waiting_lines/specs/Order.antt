-- Lines of members, who take turns (own).
use Rattle.std.specs.Prelude.{◌≡◌, ◌<◌, ◌≤◌, ◌+◌, ◌++◌, ◌∷◌, ◌⊎◌, ◌==◌, ℕ, List, [], Bool, true, false, length, slice_index_or, take, drop}

-- One who has a turn: the item, and whether a search for the next turn stops at it.
pub record Member (X : Type 0) : Type 0 where
  pub item : X
  pub awake : Bool

-- A line as its callers see it: the members in the order of their turns, and how many can be in the line without an allocation.
pub record Queue (X : Type 0) : Type 0 where
  pub order : List (Member X)
  pub capacity : ℕ

-- ---- how a line is kept

-- a list from index `next` on, and then from the front
abbrev pub turned : {Y : Type 0} → ℕ → List Y → List Y
turned next xs = drop next xs ++ take next xs

-- items as members: the one at index `i` of `xs` is awake if bit `from + i` is 1
abbrev pub members_from : {X : Type 0} → ℕ → (ℕ → ℕ) → List X → List (Member X)
members_from from bit [] = []
members_from from bit (x ∷ xs) = record { item = x; awake = bit from == 1 } ∷ members_from (from + 1) bit xs

-- the members in the order of their turns, which begins at index `next`
abbrev pub order_from : {X : Type 0} → ℕ → (ℕ → ℕ) → List X → List (Member X)
order_from next bit xs = turned next (members_from 0 bit xs)

-- The turns begin at an index of the line, there is a bit for each member, and no other bit is 1.
pub record IsKept (next count size : ℕ) (bit : ℕ → ℕ) : Type 0 where
  pub begins : next ≤ count
  pub room : count ≤ size
  pub past : (k : ℕ) → count ≤ k → bit k ≡ 0

-- of `count` members whose turns begin at index `next`, the one whose turn is after those of `i` others has index `place`
abbrev pub IsPlace : ℕ → ℕ → ℕ → ℕ → Type 0
IsPlace next count i place = (next + i ≡ place) ⊎ (next + i ≡ place + count)

-- the index of the next turn, once the member at index `place` is gone
abbrev pub IsNextWithout : ℕ → ℕ → ℕ → Type 0
IsNextWithout place next now = ((place < next) × (now + 1 ≡ next)) ⊎ ((next ≤ place) × (now ≡ next))

-- ---- what is in a line

-- Member `m` has its turn after those of `i` others: `front` is before it, `back` behind it.
pub record IsAt {X : Type 0} (order : List (Member X)) (i : ℕ) (m : Member X) (front back : List (Member X)) : Type 0 where
  pub was : order ≡ front ++ m ∷ back
  pub at : length front ≡ i

-- each of these sleeps
abbrev pub AllAsleep : {X : Type 0} → List (Member X) → Type 0
AllAsleep [] = Unit {0}
AllAsleep (m ∷ ms) = (m.awake ≡ false) × AllAsleep ms

-- there is no item at this index that passes the test
abbrev pub FailsAt : {X : Type 0} → (X → Bool) → List X → ℕ → Type 0
FailsAt {X} test items place = (d : X) → place < length items → test (slice_index_or items place d) ≡ false

-- no item of these passes the test
abbrev pub NonePass : {X : Type 0} → (X → Bool) → List (Member X) → Type 0
NonePass test [] = Unit {0}
NonePass test (m ∷ ms) = (test m.item ≡ false) × NonePass test ms

-- The member whose turn is after those of `i` others is awake, and all those before it, from the one after `from` others on, sleep.
pub record IsNextAwake {X : Type 0} (order : List (Member X)) (from i : ℕ) : Type 0 where
  pub least : from ≤ i
  pub item : X
  pub front : List (Member X)
  pub back : List (Member X)
  pub here : IsAt order i (record { item = item; awake = true }) front back
  pub before : AllAsleep (drop from front)

-- ---- what becomes of a line

-- the member whose turn is after those of `i` others, awake or not as it was, goes last, with those before it: their order is unchanged
abbrev pub GoesLast : {X : Type 0} → ℕ → List (Member X) → List (Member X) → Type 0
GoesLast {X} i old new = (m : Member X) (front back : List (Member X)) → IsAt old i m front back → new ≡ back ++ front ++ m ∷ []

-- the member whose turn is after those of `i` others sleeps now, and nothing else changes
abbrev pub FallsAsleep : {X : Type 0} → ℕ → List (Member X) → List (Member X) → Type 0
FallsAsleep {X} i old new = (m : Member X) (front back : List (Member X)) → IsAt old i m front back
    → new ≡ front ++ record { item = m.item; awake = false } ∷ back

-- A member whose item passes the test is gone; the others are unchanged, in the same order.
pub record LosesOne {X : Type 0} (test : X → Bool) (old new : List (Member X)) : Type 0 where
  pub gone : Member X
  pub passes : test gone.item ≡ true
  pub front : List (Member X)
  pub back : List (Member X)
  pub was : old ≡ front ++ gone ∷ back
  pub now : new ≡ front ++ back

-- one is gone, as `LosesOne` says; or no item passes the test, and nothing changes
abbrev pub Loses : {X : Type 0} → (X → Bool) → List (Member X) → List (Member X) → Type 0
Loses test old new = LosesOne test old new ⊎ (NonePass test old × (new ≡ old))

-- A member whose item passes the test is awake now; nothing else changes.
pub record WakesOne {X : Type 0} (test : X → Bool) (old new : List (Member X)) : Type 0 where
  pub woken : Member X
  pub passes : test woken.item ≡ true
  pub front : List (Member X)
  pub back : List (Member X)
  pub was : old ≡ front ++ woken ∷ back
  pub now : new ≡ front ++ record { item = woken.item; awake = true } ∷ back

-- one is awake, as `WakesOne` says; or no item passes the test, and nothing changes
abbrev pub Wakes : {X : Type 0} → (X → Bool) → List (Member X) → List (Member X) → Type 0
Wakes test old new = WakesOne test old new ⊎ (NonePass test old × (new ≡ old))

-- the items of these members
abbrev pub items_of : {X : Type 0} → List (Member X) → List X
items_of [] = []
items_of (m ∷ ms) = m.item ∷ items_of ms

-- items as members, each awake
abbrev pub all_awake : {X : Type 0} → List X → List (Member X)
all_awake [] = []
all_awake (x ∷ xs) = record { item = x; awake = true } ∷ all_awake xs
