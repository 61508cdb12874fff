-- The lines of queues whose indices change, as another topology is put in force (own).
use Rattle.std.specs.Prelude.{◌≡◌, ◌<◌, ◌⊎◌, ℕ, List, length}
use Rattle.channels.specs.Moving.{place_now}
use Rattle.waiting_lines.specs.Order.{Queue}
use Rattle.commands.specs.declared.picks.Pick.{Pick}
use Rattle.broker.specs.Rounds.{line_of}

-- no two entries of the table are the same index below `count`
abbrev pub IndicesDiffer : List ℕ → ℕ → Type 0
IndicesDiffer places count = (i j : ℕ) → i < length places → j < length places → place_now places i < count → place_now places i ≡ place_now places j → i ≡ j

-- each line is at the index that the table has for it, if there is such a queue
abbrev pub LinesAreMoved : List ℕ → List (Queue Pick) → List (Queue Pick) → Type 0
LinesAreMoved places old new = (from : ℕ) → from < length places → place_now places from < length new
    → (line_of new (place_now places from)).order ≡ (line_of old from).order

-- the line at index `at` is what it was, or, if `at` is `place`, it is `other`
abbrev pub IsOfEither : ℕ → ℕ → Queue Pick → Queue Pick → Queue Pick → Type 0
IsOfEither place at one other new = (new.order ≡ one.order) ⊎ ((at ≡ place) × (new.order ≡ other.order))

-- The line at index `at` is an old line whose entry in the table is `at`.
pub record ComesFrom (places : List ℕ) (old : List (Queue Pick)) (at : ℕ) (new : Queue Pick) : Type 0 where
  pub from : ℕ
  pub within : from < length places
  pub there : place_now places from ≡ at
  pub same : new.order ≡ (line_of old from).order

-- each line is what it was before, or an old line whose entry in the table is its index
abbrev pub LinesCome : List ℕ → List (Queue Pick) → List (Queue Pick) → List (Queue Pick) → Type 0
LinesCome places old before new = (at : ℕ) → ((line_of new at).order ≡ (line_of before at).order) ⊎ ComesFrom places old at (line_of new at)
