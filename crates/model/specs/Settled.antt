-- What becomes of unacknowledged deliveries: of those that a command settles, and of all
-- others (AMQP 0-9-1, basic.ack, basic.reject and basic.recover; RabbitMQ, basic.nack).
use Rattle.std.specs.Prelude.{◌≡◌, ℕ, List, Bool, true, false, Option, Some, None, slice_get}
use Rattle.model.specs.Topology.{IsIn}
use Rattle.model.specs.Broker.{Outstanding, Channel, Broker}
use Rattle.model.specs.Entries.{is_held_as, freed_now}
use Rattle.model.specs.Settling.{takes}
use Rattle.model.specs.Deliveries.{Settlement, Leaves, Rejects, Returns, of_rejected, holder_of}
use Rattle.model.specs.Step.{tag_of}
use Rattle.model.specs.Run.{Happening}
use Rattle.model.specs.Unrefused.{IsUnrefused}
use Rattle.model.specs.declared.messages.Entry.{Entry}
use Rattle.model.specs.declared.methods.Method.{Method}
use Rattle.model.specs.declared.methods.Method.TheVariants.{BasicAck, BasicReject, BasicNack, BasicRecover}
use Rattle.model.specs.declared.notes.Cause.{Cause}
use Rattle.model.specs.declared.notes.Cause.TheVariants.{Acked, Rejected}
use Rattle.model.specs.declared.notes.Note.{Note}
use Rattle.model.specs.declared.notes.Note.TheVariants.{Left}

-- ---- what becomes of one delivery

-- The message of the delivery `o` of channel `k` of connection `c` was held in its queue before
-- an event, and the event's notes say that a message of its number left that queue for `cause`.
pub record HasLeft (old : Broker) (notes : List Note) (c k : ℕ) (o : Outstanding) (cause : Cause) : Type 0 where
  pub entry : Entry
  pub stood : IsIn entry (old.queue o.queue)
  pub held : is_held_as (holder_of c k o) entry ≡ true
  pub left : IsIn (Left entry.message.number o.queue cause) notes

-- The message of the delivery `o` was held in its queue, and is ready there again, at the same index and marked as redelivered.
pub record IsReadyAgain (old new : Broker) (c k : ℕ) (o : Outstanding) : Type 0 where
  pub entry : Entry
  pub place : ℕ
  pub stood : slice_get (old.queue o.queue) place ≡ Some entry
  pub held : is_held_as (holder_of c k o) entry ≡ true
  pub stands : slice_get (new.queue o.queue) place ≡ Some (freed_now entry)

-- The delivery `o` is unacknowledged on its channel.
pub record IsOutstandingOn (b : Broker) (c k : ℕ) (o : Outstanding) : Type 0 where
  pub channel : Channel
  pub there : b.channel c k ≡ Some channel
  pub outstanding : IsIn o channel.outstanding

-- ---- what a command settles

-- Which deliveries of its channel a command settles, by tag, and how.
pub record Settling : Type 0 where
  pub tag : ℕ
  pub multiple : Bool
  pub how : Settlement

-- The deliveries that an acknowledgement, a rejection or a recovery settles; no other method settles any.
abbrev pub settling_of : Method → Option Settling
settling_of (BasicAck m) = Some (record { tag = m.delivery_tag; multiple = m.multiple; how = Leaves Acked })
settling_of (BasicReject m) = Some (record { tag = m.delivery_tag; multiple = false; how = of_rejected m.requeue })
settling_of (BasicNack m) = Some (record { tag = m.delivery_tag; multiple = m.multiple; how = of_rejected m.requeue })
settling_of (BasicRecover requeue) = Some (record { tag = 0; multiple = true; how = Returns })
settling_of m = None

-- The delivery `o` is settled as the `Settlement` says.
abbrev pub IsSettledSo : Broker → List Note → Broker → ℕ → ℕ → Settlement → Outstanding → Type 0
IsSettledSo old notes new c k (Leaves cause) o = HasLeft old notes c k o cause
IsSettledSo old notes new c k Rejects o = HasLeft old notes c k o Rejected
IsSettledSo old notes new c k Returns o = IsReadyAgain old new c k o

-- Each delivery of the channel that the tag takes is settled as `s.how` says and no longer unacknowledged; every other is still unacknowledged.
pub record AreSettledSo (old : Broker) (notes : List Note) (new : Broker) (c k : ℕ) (channel : Channel) (s : Settling) : Type 0 where
  pub taken : (o : Outstanding) → IsIn o channel.outstanding → takes tag_of s.tag s.multiple o ≡ true
      → IsSettledSo old notes new c k s.how o × (IsOutstandingOn new c k o → ⊥)
  pub others : (o : Outstanding) → IsIn o channel.outstanding → takes tag_of s.tag s.multiple o ≡ false → IsOutstandingOn new c k o

-- If the event is a command that settles deliveries and is not refused, the deliveries that its tag takes are settled as it asks, and no others are.
abbrev pub SettlesAsAsked : Happening → Type 0
SettlesAsAsked h = (c k : ℕ) (m : Method) (s : Settling) (ch : Channel) → IsUnrefused h c k m → settling_of m ≡ Some s
    → h.before.broker.channel c k ≡ Some ch → AreSettledSo h.before.broker h.notes h.after.broker c k ch s

-- ---- all other deliveries

-- A delivery that was unacknowledged still is, or its message left its queue, or is ready there again.
pub data IsAccountedFor (old : Broker) (notes : List Note) (new : Broker) (c k : ℕ) (o : Outstanding) : Type 0 where
  outstanding_still : IsOutstandingOn new c k o → IsAccountedFor old notes new c k o
  has_left : (cause : Cause) → HasLeft old notes c k o cause → IsAccountedFor old notes new c k o
  ready_again : IsReadyAgain old new c k o → IsAccountedFor old notes new c k o

-- Whatever the event is, each delivery that was unacknowledged before it is accounted for.
abbrev pub NoneIsForgotten : Happening → Type 0
NoneIsForgotten h = (c k : ℕ) (o : Outstanding) → IsOutstandingOn h.before.broker c k o → IsAccountedFor h.before.broker h.notes h.after.broker c k o
