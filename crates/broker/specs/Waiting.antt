-- No consumer starves: how far off a consumer's turn is, and what can happen while one consumer, or one queue, waits (own).
use Rattle.std.specs.Prelude.{◌≡◌, ◌<◌, ◌≤◌, ◌+◌, ◌++◌, ◌⊎◌, ◌∷◌, ℕ, List, [], Option, Some, None}
use Rattle.std.specs.Prelude.{length, slice_index_or}
use Rattle.model.specs.Topology.{IsIn}
use Rattle.exchange_graph.specs.Marks.{queue_name}
use Rattle.channels.specs.Counting.{AllDistinct}
use Rattle.commands.specs.Picked.{IsPickFrom}
use Rattle.commands.specs.declared.picks.Pick.{Pick}
use Rattle.broker.specs.Lines.{is_consumer, ahead, count_before, IsPassed}
use Rattle.broker.specs.Rounds.{HasConsumer}
use Rattle.broker.specs.Turns.{WithTurn, topology_kept, broker_of}

-- ---- how far off a turn is

-- the consumers of the queue at this index, in the order in which their turns come
abbrev pub line_at : WithTurn → ℕ → List Pick
line_at b place = slice_index_or b.lines place []

-- the consumer has a turn in the order of the queue at this index
abbrev pub IsInLine : WithTurn → ℕ → Pick → Type 0
IsInLine b place p = IsIn p (line_at b place)

-- the number of queues
abbrev pub queues : WithTurn → ℕ
queues b = length (topology_kept b).queues

-- how many consumers come before `p` in the order of the queue at this index
abbrev pub count_before_at : WithTurn → ℕ → Pick → ℕ
count_before_at b place p = count_before (is_consumer p) (line_at b place)

-- how many queues come before the one at this index in the round over the queues
abbrev pub ahead_at : WithTurn → ℕ → ℕ
ahead_at b place = ahead (queues b) b.next place

-- 1 if a consumer is picked, as the delivery to it is still to be made; otherwise 0
abbrev pub owed : Option Pick → ℕ
owed None = 0
owed (Some picked) = 1

-- the consumer exists and takes from the queue at this index
abbrev pub TakesAt : WithTurn → ℕ → Pick → Type 0
TakesAt b place p = HasConsumer (topology_kept b) (broker_of b) place p

-- the order of each queue has each of the queue's consumers, and nothing else
abbrev pub AllInLine : WithTurn → Type 0
AllInLine b = (place : ℕ) (p : Pick) → (TakesAt b place p → IsIn p (line_at b place)) × (IsIn p (line_at b place) → TakesAt b place p)

-- Each queue has exactly one waiter for each of its consumers.
pub record WaitersAreConsumers (b : WithTurn) : Type 0 where
  pub complete : AllInLine b
  pub once : (place : ℕ) → AllDistinct (line_at b place)

-- ---- what becomes of the orders

-- The order of the queues and of each queue's consumers is unchanged.
pub record LinesStay (old new : WithTurn) : Type 0 where
  pub next : new.next ≡ old.next
  pub lines : (place : ℕ) → line_at new place ≡ line_at old place

-- No consumer is put back: one that is still there has at most as many before it as it had. A new consumer is behind all that are there.
pub record NobodyIsPutBack (old new : WithTurn) : Type 0 where
  pub next : new.next ≡ old.next
  pub lines : (place : ℕ) (p : Pick) → TakesAt old place p → TakesAt new place p → count_before_at new place p ≤ count_before_at old place p

-- No consumer is put back or added: each was there before, and has at most as many before it as it had.
pub record NoneIsLater (old new : WithTurn) : Type 0 where
  pub next : new.next ≡ old.next
  pub took : (place : ℕ) (p : Pick) → TakesAt new place p → TakesAt old place p
  pub lines : (place : ℕ) (p : Pick) → TakesAt new place p → count_before_at new place p ≤ count_before_at old place p

-- The consumers of each queue that is still declared keep their order, whatever index the queue has now, and the round over the queues begins at index 0.
pub record LinesMove (old new : WithTurn) : Type 0 where
  pub next : new.next ≡ 0
  pub lines : (from to : ℕ) → from < queues old → to < queues new → queue_name (topology_kept old) from ≡ queue_name (topology_kept new) to
      → line_at new to ≡ line_at old from

-- ---- who is picked

-- a delivery can be made from the queue at this index
abbrev pub CanGive : WithTurn → ℕ → Type 0
CanGive b place = (p : Pick) × IsPickFrom b.kept place p

-- Consumer `picked` of the queue at index `queue` is the first: no delivery can be made from a queue whose turn is before that, nor to a consumer
-- ahead of `picked` in the queue's order. `picked` goes to the end of the order, behind those that were ahead of it; all other orders are unchanged.
pub record IsFirst (old : WithTurn) (picked : Pick) (queue : ℕ) (new : WithTurn) : Type 0 where
  pub could : IsPickFrom old.kept queue picked
  pub queues_before : (at : ℕ) → IsPassed (queues old) old.next queue at → CanGive old at → ⊥
  pub next : new.next ≡ queue + 1
  pub front : List Pick
  pub back : List Pick
  pub was : line_at old queue ≡ front ++ picked ∷ back
  pub now : line_at new queue ≡ back ++ front ++ picked ∷ []
  pub before : (p : Pick) → IsIn p front → IsPickFrom old.kept queue p → ⊥
  pub others : (at : ℕ) → (at ≡ queue → ⊥) → line_at new at ≡ line_at old at

-- `picked` was picked and not served, and is picked again, and no order changes; or it is the first to which a delivery can be made (`IsFirst`)
abbrev pub IsPickedInTurn : WithTurn → Pick → WithTurn → Type 0
IsPickedInTurn old picked new = ((old.turn ≡ Some picked) × LinesStay old new) ⊎ ((queue : ℕ) × IsFirst old picked queue new)

-- ---- a consumer that waits

-- Another consumer of the queue at index `place` is picked, though a delivery could be made from the queue to consumer `p`.
pub record IsPassedOver (old new : WithTurn) (place : ℕ) (p : Pick) : Type 0 where
  pub picked : Pick
  pub in_line : IsInLine old place p
  pub could : IsPickFrom old.kept place p
  pub other : p ≡ picked → ⊥
  pub first : IsFirst old picked place new

-- A consumer of another queue is picked.
pub record IsBeside (old new : WithTurn) (place : ℕ) (p : Pick) : Type 0 where
  pub picked : Pick
  pub queue : ℕ
  pub far : place ≡ queue → ⊥
  pub first : IsFirst old picked queue new

-- The delivery to another consumer, which was picked, is made, and consumer `p` still exists.
pub record IsServedAnother (old new : WithTurn) (place : ℕ) (p : Pick) : Type 0 where
  pub picked : Pick
  pub owed : old.turn ≡ Some picked
  pub other : p ≡ picked → ⊥
  pub later : NoneIsLater old new
  pub still : TakesAt new place p

-- No consumer is put back, and consumer `p` exists before and after.
pub record IsLeft (old new : WithTurn) (place : ℕ) (p : Pick) : Type 0 where
  pub back : NobodyIsPutBack old new
  pub was : TakesAt old place p
  pub still : TakesAt new place p

-- A sequence of steps while consumer `p` waits: the queue made `served` deliveries to other consumers, and `owes` is 1 if another delivery of the
-- queue is owed to the consumer that was picked.
pub data Waits (place : ℕ) (p : Pick) (start : WithTurn) : ℕ → ℕ → WithTurn → Type 0 where
  begins : Waits place p start 0 (owed start.turn) start
  -- another consumer of the queue is picked, though a delivery to consumer `p` could be made
  passed : {served owes : ℕ} {old new : WithTurn} → Waits place p start served owes old → IsPassedOver old new place p → Waits place p start served 1 new
  -- the delivery to another consumer, which was picked, is made
  other : {served owes : ℕ} {old new : WithTurn} → Waits place p start served owes old → IsServedAnother old new place p
      → Waits place p start (served + owes) 0 new
  -- a consumer of another queue is picked
  beside : {served owes : ℕ} {old new : WithTurn} → Waits place p start served owes old → IsBeside old new place p → Waits place p start served 0 new
  -- no consumer is picked, or the one that was picked is picked again
  again : {served owes : ℕ} {old new : WithTurn} → Waits place p start served owes old → LinesStay old new → Waits place p start served owes new
  -- something else happens
  stays : {served owes : ℕ} {old new : WithTurn} → Waits place p start served owes old → IsLeft old new place p → Waits place p start served owes new

-- ---- a queue that waits

-- A sequence of steps while the queue at this index waits: `served` deliveries were made from other queues, and `owes` is 1 if another is owed.
pub data QueueWaits (place : ℕ) (start : WithTurn) : ℕ → ℕ → WithTurn → Type 0 where
  begins : QueueWaits place start 0 (owed start.turn) start
  -- a consumer of another queue is picked, though a delivery could be made from the queue at index `place`
  passed : {served owes : ℕ} {old new : WithTurn} (picked : Pick) (queue : ℕ) → QueueWaits place start served owes old → CanGive old place
      → (place ≡ queue → ⊥) → IsFirst old picked queue new → new.kept ≡ old.kept → QueueWaits place start served 1 new
  -- the delivery that was owed, if any, is made, or something else happens; an owed delivery counts as made in either case
  other : {served owes : ℕ} {old new : WithTurn} → QueueWaits place start served owes old → new.next ≡ old.next
      → topology_kept new ≡ topology_kept old → QueueWaits place start (served + owes) 0 new
  -- nothing is delivered
  stays : {served owes : ℕ} {old new : WithTurn} → QueueWaits place start served owes old → new.next ≡ old.next
      → topology_kept new ≡ topology_kept old → QueueWaits place start served owes new

-- ---- the bound

-- the queue made fewer deliveries to others than it had consumers at the start, not counting one that was owed then
abbrev pub IsServedSoon : WithTurn → ℕ → ℕ → ℕ → Type 0
IsServedSoon start place served owes = served + owes < length (line_at start place) + owed start.turn

-- each consumer that waits while `picked` is served was passed over by few deliveries of its queue (`IsServedSoon`), this delivery among them
abbrev pub ServesSoon : WithTurn → Pick → Type 0
ServesSoon old picked = (place : ℕ) (p : Pick) (start : WithTurn) (served owes : ℕ) → IsInLine start place p → Waits place p start served owes old
    → IsServedSoon start place served owes

-- No consumer and no queue starves:
pub record NobodyWaits : Type 0 where
  -- each delivery of its queue to another brings a waiting consumer one nearer to its turn, and nothing puts it back
  pub nearer : (place : ℕ) (p : Pick) (start now : WithTurn) (served owes : ℕ) → Waits place p start served owes now
      → served + owes + count_before_at now place p ≤ count_before_at start place p + owed start.turn
  -- a waiting consumer's queue makes fewer deliveries to others than it has consumers, not counting one that was owed
  pub fewer : (place : ℕ) (p : Pick) (start now : WithTurn) (served owes : ℕ) → IsInLine start place p → Waits place p start served owes now
      → IsServedSoon start place served owes
  -- whoever waits at a delivery was passed over by fewer deliveries of its queue than the queue has consumers, not counting one that was owed
  pub soon : (b : WithTurn) (picked : Pick) → ServesSoon b picked
  -- a queue from which a delivery can be made is passed over by fewer deliveries than there are queues, not counting one that was owed
  pub queue : (place : ℕ) (start now : WithTurn) (served owes : ℕ) → place < queues start → QueueWaits place start served owes now
      → served + owes < queues start + owed start.turn
