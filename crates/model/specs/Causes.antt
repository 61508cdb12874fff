-- Why a message left a queue, and where one that entered came from (own, from the commands of AMQP 0-9-1 that it names).
use Rattle.std.specs.Prelude.{◌≡◌, ℕ, Bool, true, false, Some}
use Rattle.std.specs.List.{AllByRecursion}
use Rattle.model.specs.Words.{Text}
use Rattle.model.specs.Topology.{IsIn}
use Rattle.model.specs.Broker.{Outstanding, Channel, Broker, is_ready}
use Rattle.model.specs.Entries.{is_held_as}
use Rattle.model.specs.Settling.{takes}
use Rattle.model.specs.Step.{tag_of}
use Rattle.model.specs.Deliveries.{first_ready, holder_of}
use Rattle.model.specs.Consuming.{CanDeliver}
use Rattle.model.specs.Run.{Happening}
use Rattle.model.specs.declared.messages.Entry.{Entry}
use Rattle.model.specs.declared.methods.Method.{Method}
use Rattle.model.specs.declared.methods.Method.TheVariants.{QueuePurge, BasicGet, BasicAck, BasicReject, BasicNack}
use Rattle.model.specs.declared.events.Event.{Event}
use Rattle.model.specs.declared.events.Event.TheVariants.{Command, Deliver}
use Rattle.model.specs.declared.notes.Cause.{Cause}
use Rattle.model.specs.declared.notes.Cause.TheVariants.{Acked as Acknowledged, Auto, Rejected, Purged}
use Rattle.model.specs.declared.notes.Note.{Note}
use Rattle.model.specs.declared.notes.Note.TheVariants.{Entered, Left}
use Rattle.model.specs.declared.notes.Way.TheVariants as way
use Rattle.model.specs.Allowed.{IsNoted}

-- ---- causes

-- A message of number `n` in the queue `q` is held by an unacknowledged delivery on channel `h` of
-- connection `c`, and an acknowledgement with this `tag` and `multiple` settles that delivery.
pub record WasGiven (b : Broker) (c h tag : ℕ) (multiple : Bool) (n : ℕ) (q : Text) : Type 0 where
  pub channel : Channel
  pub there : b.channel c h ≡ Some channel
  pub delivery : Outstanding
  pub outstanding : IsIn delivery channel.outstanding
  pub settled : takes tag_of tag multiple delivery ≡ true
  pub of_queue : delivery.queue ≡ q
  pub entry : Entry
  pub stands : IsIn entry (b.queue q)
  pub held : is_held_as (holder_of c h delivery) entry ≡ true
  pub number : entry.message.number ≡ n

-- A message of number `n` is ready in the queue `q`.
pub record IsReadyIn (b : Broker) (n : ℕ) (q : Text) : Type 0 where
  pub entry : Entry
  pub stands : IsIn entry (b.queue q)
  pub ready : is_ready entry ≡ true
  pub number : entry.message.number ≡ n

-- The first ready message of the queue `q` has number `n`.
pub record IsFirstIn (b : Broker) (n : ℕ) (q : Text) : Type 0 where
  pub entry : Entry
  pub first : first_ready (b.queue q) ≡ Some entry
  pub number : entry.message.number ≡ n

-- The method is an acknowledgement, which settles a message of number `n` in the queue `q` (AMQP 0-9-1, basic.ack).
abbrev pub ByAck : Broker → ℕ → ℕ → Method → ℕ → Text → Type 0
ByAck b c h (BasicAck m) n q = WasGiven b c h m.delivery_tag m.multiple n q
ByAck b c h m n q = ⊥

-- The method is a rejection without requeue, which settles a message of number `n` in the queue `q` (AMQP 0-9-1, basic.reject; RabbitMQ, basic.nack).
abbrev pub ByRejection : Broker → ℕ → ℕ → Method → ℕ → Text → Type 0
ByRejection b c h (BasicReject m) n q = (m.requeue ≡ false) × WasGiven b c h m.delivery_tag false n q
ByRejection b c h (BasicNack m) n q = (m.requeue ≡ false) × WasGiven b c h m.delivery_tag m.multiple n q
ByRejection b c h m n q = ⊥

-- The method is a get without acknowledgement from the queue `q`, whose first ready message has number `n` (AMQP 0-9-1, basic.get, no-ack).
abbrev pub ByGiving : Broker → Method → ℕ → Text → Type 0
ByGiving b (BasicGet m) n q = (m.no_ack ≡ true) × (m.queue ≡ q) × IsFirstIn b n q
ByGiving b m n q = ⊥

-- The method is a purge of the queue `q`, in which a message of number `n` is ready (AMQP 0-9-1, queue.purge).
abbrev pub ByPurge : Broker → Method → ℕ → Text → Type 0
ByPurge b (QueuePurge m) n q = (m.queue ≡ q) × IsReadyIn b n q
ByPurge b m n q = ⊥

-- In this state, the method on channel `h` of connection `c` may take a message of number `n` out of the queue `q` for this cause.
abbrev pub IsCauseIn : Broker → ℕ → ℕ → Method → ℕ → Text → Cause → Type 0
IsCauseIn b c h m n q Acknowledged = ByAck b c h m n q
IsCauseIn b c h m n q Auto = ByGiving b m n q
IsCauseIn b c h m n q Rejected = ByRejection b c h m n q
IsCauseIn b c h m n q Purged = ByPurge b m n q

-- A delivery that can be made to connection `c` takes a message of number `n` out of the queue `q`: the
-- first ready one, for a consumer that needs no acknowledgement (AMQP 0-9-1, basic.consume, no-ack).
pub record ByDelivery (b : Broker) (c n : ℕ) (q : Text) : Type 0 where
  pub made : CanDeliver b c
  pub no_ack : made.consumer.no_ack ≡ true
  pub queue : made.consumer.queue ≡ q
  pub number : made.entry.message.number ≡ n

-- A delivery to connection `c` may take a message of number `n` out of the queue `q` for this cause, which is `Auto`.
abbrev pub IsCauseOfDelivery : Broker → ℕ → ℕ → Text → Cause → Type 0
IsCauseOfDelivery b c n q Auto = ByDelivery b c n q
IsCauseOfDelivery b c n q cause = ⊥

-- In this state, the event may take a message of number `n` out of the queue `q` for `cause`: only a command or a delivery may.
abbrev pub IsCauseAt : Broker → Event → ℕ → Text → Cause → Type 0
IsCauseAt b (Command c h m content) n q cause = IsCauseIn b c h m n q cause
IsCauseAt b (Deliver c) n q cause = IsCauseOfDelivery b c n q cause
IsCauseAt b e n q cause = ⊥

-- The event `h` may take a message of number `n` out of the queue `q` for `cause`, by the state before it.
abbrev pub IsCause : Happening → ℕ → Text → Cause → Type 0
IsCause h n q cause = IsCauseAt h.before.broker h.event n q cause

-- If the note says that a message left a queue, the event may take it out for the cause that is noted.
abbrev pub HasCause : Happening → Note → Type 0
HasCause h (Left n q cause) = IsCause h n q cause
HasCause h note = Unit {0}

-- Each message of which the event notes that it left a queue has a cause.
abbrev pub HaveCauses : Happening → Type 0
HaveCauses h = AllByRecursion (HasCause h) h.notes

-- ---- origins

-- The event notes publish `n`.
abbrev pub IsPublishedAt : Happening → ℕ → Type 0
IsPublishedAt h n = (x : Text) × (key : Text) × IsNoted h.notes n x key

-- Before the event, a message of number `n` was in a queue. The event notes that a message of that number left that queue by a rejection.
pub record DiesAt (h : Happening) (n : ℕ) : Type 0 where
  pub queue : Text
  pub entry : Entry
  pub stood : IsIn entry (h.before.broker.queue queue)
  pub number : entry.message.number ≡ n
  pub left : IsIn (Left n queue Rejected) h.notes

-- If the note says that a message entered a queue, it came at this event: by its publish, or, as a dead letter, by its death.
abbrev pub HasOrigin : Happening → Note → Type 0
HasOrigin h (Entered n q way.Publish) = IsPublishedAt h n
HasOrigin h (Entered n q way.Dead) = DiesAt h n
HasOrigin h note = Unit {0}

-- Each message of which the event notes that it entered a queue has an origin.
abbrev pub HaveOrigins : Happening → Type 0
HaveOrigins h = AllByRecursion (HasOrigin h) h.notes
