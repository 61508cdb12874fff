-- The line of consumers of each queue, over which deliveries go, and which of them are passed over (own).
use Rattle.std.specs.Prelude.{◌≡◌, ◌==◌, ◌&&◌, ◌<◌, ◌≤◌, ◌*◌, ◌+◌, ◌⊎◌, ◌++◌, ℕ, List, []}
use Rattle.std.specs.Prelude.{◌∷◌, filter, Bool, true, false, Option, Some, None, length}
use Rattle.std.specs.Prelude.{slice_index_or, nat_lt, IfSome}
use Rattle.std.specs.List.{list_any}
use Rattle.std.specs.Str.{bytes_eq}
use Rattle.model.specs.Words.{Text}
use Rattle.model.specs.Topology.{Topology, IsIn}
use Rattle.model.specs.Broker.{Consumer, Channel, Broker}
use Rattle.model.specs.Agreement.{IsAgreed}
use Rattle.model.specs.declared.events.Event.{Event}
use Rattle.model.specs.declared.events.Event.TheVariants.{Command, Resume}
use Rattle.model.specs.declared.methods.Method.{Method}
use Rattle.model.specs.declared.methods.Method.TheVariants.{BasicAck, BasicConsume, BasicNack, BasicQos, BasicRecover, BasicReject}
use Rattle.laws.specs.Consumers.{WasConsumer}
use Rattle.marks.specs.Sets.{bit_of}
use Rattle.depot.specs.Store.{HasReady}
use Rattle.exchange_graph.specs.Marks.{queue_name}
use Rattle.waiting_lines.specs.Order.{Member, Queue, items_of}
use Rattle.channels.specs.Counting.{AllDistinct}
use Rattle.commands.specs.State.{Kept, broker_of, topology_kept}
use Rattle.commands.specs.Picked.{IsPickFrom, CannotTake}
use Rattle.commands.specs.NewConsumers.{consumer_to_make, IsConsumed}
use Rattle.commands.specs.declared.picks.Pick.{Pick}
use Rattle.broker.specs.declared.rounds.Newcomer.{Newcomer}
use Rattle.broker.specs.declared.rounds.leaving.Leavers.{Leavers}
use Rattle.broker.specs.Leaving.{remains}
use Rattle.broker.specs.Lines.{IsPassed}

-- ---- lines

-- The lines of all queues, in the order of the definitions.
pub record Rounds : Type 0 where
  pub lines : List (Queue Pick)
  -- the index of the queue at which the round over the queues begins
  pub next : ℕ

-- the line of the queue at index `place`; empty if there is none
abbrev pub line_of : List (Queue Pick) → ℕ → Queue Pick
line_of lines place = slice_index_or lines place (record { order = []; capacity = 0 })

-- the consumers in a line, in the order in which their turns come
abbrev pub order : Queue Pick → List Pick
order l = items_of l.order

-- consumer `p` in a line, awake
abbrev pub awake_member : Pick → Member Pick
awake_member p = record { item = p; awake = true }

-- consumer `p` in a line, asleep
abbrev pub asleep_member : Pick → Member Pick
asleep_member p = record { item = p; awake = false }

-- consumer `p` is in the line, awake
abbrev pub IsAwake : Queue Pick → Pick → Type 0
IsAwake l p = IsIn (awake_member p) l.order

-- consumer `p` is in the line, asleep
abbrev pub IsAsleep : Queue Pick → Pick → Type 0
IsAsleep l p = IsIn (asleep_member p) l.order

-- ---- who takes from a queue

-- the consumer has number `n` and takes from the queue named `queue`
abbrev pub is_numbered_of : Text → ℕ → Consumer → Bool
is_numbered_of queue n k = (k.number == n) && bytes_eq k.queue queue

-- the channel exists and has a consumer with number `n` that takes from the queue named `queue`
abbrev pub has_taker : Text → ℕ → Option Channel → Bool
has_taker queue n None = false
has_taker queue n (Some ch) = list_any (is_numbered_of queue n) ch.consumers

-- the consumer `p` exists and takes from the queue named `queue`
abbrev pub takes_from : Broker → Text → Pick → Bool
takes_from b queue p = has_taker queue p.number (b.channel p.connection p.channel)

-- the consumer `p` exists and takes from the queue at index `queue`
abbrev pub is_of : Kept → ℕ → Pick → Bool
is_of kept queue p = nat_lt queue (length (topology_kept kept).queues) && takes_from (broker_of kept) (queue_name (topology_kept kept) queue) p

-- Consumer `p` exists and takes from the queue at this index.
pub record HasConsumer (t : Topology) (b : Broker) (place : ℕ) (p : Pick) : Type 0 where
  pub consumer : Consumer
  pub was : WasConsumer b p.connection p.channel consumer
  pub numbered : consumer.number ≡ p.number
  pub within : place < length t.queues
  pub named : queue_name t place ≡ consumer.queue

-- if the queue at this index has a ready message, a delivery of it can be made to consumer `p`
abbrev pub CanTakeFrom : Kept → ℕ → Pick → Type 0
CanTakeFrom kept queue p = HasReady kept.store queue → IsPickFrom kept queue p

-- if consumer `p` takes from the queue at this index, it can't take a message now
abbrev pub CannotTakeFrom : Kept → ℕ → Pick → Type 0
CannotTakeFrom kept queue p = is_of kept queue p ≡ true → CannotTake (broker_of kept) p

-- ---- the invariant of a broker

-- The consumers in `ps` are consumers of the queue at index `queue`, each once.
pub record AreItsConsumers (kept : Kept) (queue : ℕ) (ps : List Pick) : Type 0 where
  pub there : (p : Pick) → IsIn p ps → is_of kept queue p ≡ true
  pub once : AllDistinct ps

-- the consumers in each line are consumers of its queue, each once
abbrev pub AllAreConsumers : Kept → List (Queue Pick) → Type 0
AllAreConsumers kept lines = (place : ℕ) → AreItsConsumers kept place (order (line_of lines place))

-- each consumer is in the line of its queue
abbrev pub AllAreInLines : Topology → Broker → List (Queue Pick) → Type 0
AllAreInLines t b lines = (place : ℕ) (p : Pick) → HasConsumer t b place p → IsIn p (order (line_of lines place))

-- whoever sleeps can't take a message now
abbrev pub SleepersCannotTake : Broker → List (Queue Pick) → Type 0
SleepersCannotTake b lines = (place : ℕ) (p : Pick) → IsAsleep (line_of lines place) p → CannotTake b p

-- Each queue has a line, of its consumers, each once; and whoever sleeps in it can't take a message now.
pub record AreKept (kept : Kept) (lines : List (Queue Pick)) : Type 0 where
  pub lines_for : length lines ≡ length (topology_kept kept).queues
  pub joined : AllAreInLines (topology_kept kept) (broker_of kept) lines
  pub own : AllAreConsumers kept lines
  pub asleep : SleepersCannotTake (broker_of kept) lines

-- What holds of every broker:
pub record IsServing (kept : Kept) (r : Rounds) : Type 0 where
  pub agreed : IsAgreed (broker_of kept)
  pub kept_so : AreKept kept r.lines

-- ---- which queues a pick looks at

-- Each queue has a bit, which is 1 if a consumer in its line is awake.
pub record QueuesAreMarked (lines : List (Queue Pick)) (marks : List ℕ) : Type 0 where
  pub room : length lines ≤ length marks * 64
  pub awake : (place : ℕ) (p : Pick) → IsAwake (line_of lines place) p → bit_of marks place ≡ 1

-- no delivery can be made from a queue at an index in `from..to` whose bit is 1
abbrev pub NoneMarked : Kept → List ℕ → ℕ → ℕ → Type 0
NoneMarked kept marks from to = (place : ℕ) (p : Pick) → from ≤ place → place < to → bit_of marks place ≡ 1 → IsPickFrom kept place p → ⊥

-- `place` is the index of a queue at or after `from` with a ready message and bit 1. No delivery can be made from a queue with bit 1 in `from..place`.
pub record IsFirstMarked (kept : Kept) (marks : List ℕ) (from place : ℕ) : Type 0 where
  pub least : from ≤ place
  pub within : place < length (topology_kept kept).queues
  pub ready : HasReady kept.store place
  pub marked : bit_of marks place ≡ 1
  pub before : NoneMarked kept marks from place

-- an index as `IsFirstMarked` says, or `None` if no delivery can be made from a queue at or after `from` with bit 1
abbrev pub IsNextMarked : Kept → List ℕ → ℕ → Option ℕ → Type 0
IsNextMarked kept marks from (Some place) = IsFirstMarked kept marks from place
IsNextMarked kept marks from None = (place : ℕ) (p : Pick) → from ≤ place → bit_of marks place ≡ 1 → IsPickFrom kept place p → ⊥

-- no delivery can be made from a queue at an index in `from..to`
abbrev pub NoneBetween : Kept → ℕ → ℕ → Type 0
NoneBetween kept from to = (place : ℕ) (p : Pick) → from ≤ place → place < to → IsPickFrom kept place p → ⊥

-- of `count` queues, no delivery can be made from one that comes before `to` in the cyclic order from `next`
abbrev pub NonePassed : Kept → ℕ → ℕ → ℕ → Type 0
NonePassed kept count next to = (at : ℕ) (p : Pick) → IsPassed count next to at → IsPickFrom kept at p → ⊥

-- ---- the order of turns

-- The consumer is picked from the line of this queue: no delivery can be made to one that comes before it there.
-- Those before it, and then itself, go to the end of the order.
pub record GoesLast (kept : Kept) (queue : ℕ) (old new : List Pick) (p : Pick) : Type 0 where
  pub front : List Pick
  pub back : List Pick
  pub was : old ≡ front ++ p ∷ back
  pub now : new ≡ back ++ front ++ p ∷ []
  pub passed : (q : Pick) → IsIn q front → IsPickFrom kept queue q → ⊥

-- the order of each line is unchanged
abbrev pub SameOrders : List (Queue Pick) → List (Queue Pick) → Type 0
SameOrders old new = (at : ℕ) → order (line_of new at) ≡ order (line_of old at)

-- each line is unchanged, but for its capacity
abbrev pub SameLines : List (Queue Pick) → List (Queue Pick) → Type 0
SameLines old new = (at : ℕ) → (line_of new at).order ≡ (line_of old at).order

-- The consumer is picked from the line of the queue at index `queue`, and the order of all other lines is unchanged.
pub record PicksFrom (kept : Kept) (old new : List (Queue Pick)) (queue : ℕ) (p : Pick) : Type 0 where
  pub line : GoesLast kept queue (order (line_of old queue)) (order (line_of new queue)) p
  pub others : (at : ℕ) → (at ≡ queue → ⊥) → order (line_of new at) ≡ order (line_of old at)

-- Consumer `p` is picked: no delivery can be made from a queue that comes before its own, and the next round over the queues begins behind its queue.
pub record PicksFirst (kept : Kept) (old new : Rounds) (p : Pick) : Type 0 where
  pub queue : ℕ
  pub could : IsPickFrom kept queue p
  pub passed : NonePassed kept (length old.lines) old.next queue
  pub picked : PicksFrom kept old.lines new.lines queue p
  pub next : new.next ≡ queue + 1

-- The order of each line and of the queues is unchanged.
pub record GoesOn (old new : Rounds) : Type 0 where
  pub len : length new.lines ≡ length old.lines
  pub same : SameOrders old.lines new.lines
  pub next : new.next ≡ old.next

-- whoever sleeps slept before
abbrev pub NobodyFallsAsleep : List (Queue Pick) → List (Queue Pick) → Type 0
NobodyFallsAsleep old new = (place : ℕ) (p : Pick) → IsAsleep (line_of new place) p → IsAsleep (line_of old place) p

-- ---- those who come and go

-- The newcomer can be added to the line of its queue without an allocation.
pub record CanJoin (lines : List (Queue Pick)) (n : Newcomer) : Type 0 where
  pub within : n.queue < length lines
  pub room : length (line_of lines n.queue).order < (line_of lines n.queue).capacity
  pub absent : IsIn n.consumer (order (line_of lines n.queue)) → ⊥

-- There is capacity for the newcomer, if any; and the consumer that the event is going to make is this newcomer.
pub record IsExpected (kept : Kept) (e : Event) (lines : List (Queue Pick)) (newcomer : Option Newcomer) : Type 0 where
  pub room : IfSome newcomer (CanJoin lines)
  pub reported : (place : ℕ) (p : Pick) → IsConsumed (topology_kept kept) e place → consumer_to_make kept e ≡ Some p
      → newcomer ≡ Some (record { queue = place; consumer = p })

-- A consumer that takes from the queue, and was not in its line, is added at the end of the order.
pub record ComesLast (kept : Kept) (queue : ℕ) (old new : List Pick) : Type 0 where
  pub newcomer : Pick
  pub its : is_of kept queue newcomer ≡ true
  pub absent : IsIn newcomer old → ⊥
  pub line : new ≡ old ++ newcomer ∷ []

-- the order of each line is unchanged, or a consumer of its queue is added at the end
abbrev pub AllAddTheirOwn : Kept → List (Queue Pick) → List (Queue Pick) → Type 0
AllAddTheirOwn kept old new = (place : ℕ) → (order (line_of new place) ≡ order (line_of old place))
    ⊎ ComesLast kept place (order (line_of old place)) (order (line_of new place))

-- those who leave are removed from each line, and the order of the rest is unchanged
abbrev pub LeaveLines : Leavers → List (Queue Pick) → List (Queue Pick) → Type 0
LeaveLines who old new = (place : ℕ) → order (line_of new place) ≡ filter (remains who) (order (line_of old place))

-- those who leave are removed from the line at this index, or its bit isn't 1 and its order is unchanged
abbrev pub LeavesIfNamed : Leavers → List ℕ → List (Queue Pick) → List (Queue Pick) → ℕ → Type 0
LeavesIfNamed who named old new place = (order (line_of new place) ≡ filter (remains who) (order (line_of old place)))
    ⊎ ((bit_of named place ≡ 1 → ⊥) × (order (line_of new place) ≡ order (line_of old place)))

-- no line has a consumer
abbrev pub AllAreEmpty : List (Queue Pick) → Type 0
AllAreEmpty lines = (at : ℕ) → (line_of lines at).order ≡ []

-- ---- waking

-- if no consumer is twice in the line of the queue at this index, consumer `p` is not asleep in it
abbrev pub IsNotAsleepAt : List (Queue Pick) → ℕ → Pick → Type 0
IsNotAsleepAt lines place p = AllDistinct (order (line_of lines place)) → IsAsleep (line_of lines place) p → ⊥

-- whether the method may let a consumer of its channel take more messages: it settles deliveries, sets a prefetch, or makes a consumer
abbrev pub wakes_on : Method → Bool
wakes_on (BasicQos m) = true
wakes_on (BasicConsume m) = true
wakes_on (BasicAck m) = true
wakes_on (BasicReject m) = true
wakes_on (BasicNack m) = true
wakes_on (BasicRecover requeue) = true
wakes_on _ = false

-- whether consumer `p` may be able to take more messages after this event
abbrev pub wakes : Event → Pick → Bool
wakes (Command c h m content) p = wakes_on m && ((p.connection == c) && (p.channel == h))
wakes (Resume c) p = p.connection == c
wakes e p = false
