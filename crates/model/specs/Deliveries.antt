-- Messages that are given out on a channel, and what becomes of them when they are settled. Source: AMQP 0-9-1,
-- section 1.5, basic.get, basic.ack, basic.reject and basic.recover; RabbitMQ, basic.nack and "Dead Letter Exchanges".
use Rattle.std.specs.Prelude.{◌≡◌, ◌+◌, ℕ, List, [], ◌∷◌, ◌++◌, length, filter, map, find, Bool, not, nat_le, if◌then◌else◌, Option, Some, None}
use Rattle.std.specs.Str.{bytes_eq}
use Rattle.model.specs.Words.{Text}
use Rattle.model.specs.Topology.{Topology}
use Rattle.model.specs.Deaths.{MayDie}
use Rattle.model.specs.Broker.{Outstanding, Channel, Broker, is_ready, with_pair}
use Rattle.model.specs.Entries.{is_under, is_held_as, freed, held_as, change_first, without_first}
use Rattle.model.specs.declared.messages.Entry.{Entry}
use Rattle.model.specs.declared.messages.Holder.{Holder}
use Rattle.model.specs.declared.messages.Taker.{Taker}
use Rattle.model.specs.declared.notes.Cause.{Cause}
use Rattle.model.specs.declared.notes.Cause.TheVariants.{Auto, Purged}
use Rattle.model.specs.declared.notes.Note.{Note}
use Rattle.model.specs.declared.notes.Note.TheVariants.{Left}

-- ---- one queue

-- The queues, with `entries` in the queue called `name`.
abbrev pub with_queue : (Text → List Entry) → Text → List Entry → Text → List Entry
with_queue queues name entries q = if bytes_eq name q then entries else queues q

-- The first ready entry, if there is one.
abbrev pub first_ready : List Entry → Option Entry
first_ready entries = find is_ready entries

-- The number of ready entries.
abbrev pub ready_in : List Entry → ℕ
ready_in entries = length (filter is_ready entries)

-- The count `n` as it is sent: at most 4,294,967,295, the greatest number of four bytes (own).
abbrev pub written_count : ℕ → ℕ
written_count n = if nat_le n 4294967295 then n else 4294967295

-- ---- giving out

-- The queue's entries after its first ready message was given out: it is held, or removed if it needs no acknowledgement.
abbrev pub after_giving : Bool → Holder → List Entry → List Entry
after_giving no_ack holder entries = if no_ack then without_first is_ready entries else change_first is_ready (held_as holder) entries

-- The unacknowledged deliveries of a channel after a message of `queue` was given out under `tag`; unchanged if it needs no acknowledgement.
abbrev pub outstanding_after : Bool → ℕ → Text → Taker → List Outstanding → List Outstanding
outstanding_after no_ack tag queue by given = if no_ack then given else given ++ record { tag = tag; queue = queue; by = by } ∷ []

-- The channel after a message of `queue` was given out on it, under its next tag.
abbrev pub channel_after : Bool → Text → Taker → Channel → Channel
channel_after no_ack queue by ch = record ch { next_tag = ch.next_tag + 1; outstanding = outstanding_after no_ack ch.next_tag queue by ch.outstanding }

-- The broker after the first ready message of `queue` was given out on channel `h` of connection `c`.
abbrev pub after_delivery : Broker → ℕ → ℕ → Channel → Bool → Text → Taker → Broker
after_delivery b c h ch no_ack queue by = record b {
  queue = with_queue b.queue queue (after_giving no_ack (record { connection = c; channel = h; tag = ch.next_tag; by = by }) (b.queue queue));
  channel = with_pair b.channel c h (Some (channel_after no_ack queue by ch));
}

-- The note that a message left its queue when it was given out; no note if it needs an acknowledgement.
abbrev pub delivery_notes : Bool → ℕ → Text → List Note
delivery_notes no_ack number queue = if no_ack then Left number queue Auto ∷ [] else []

-- ---- settling

-- The holder of the unacknowledged delivery `o` on channel `h` of connection `c`.
abbrev pub holder_of : ℕ → ℕ → Outstanding → Holder
holder_of c h o = record { connection = c; channel = h; tag = o.tag; by = o.by }

-- The entry that is held by the delivery `o` of channel `h` of connection `c`, if it is in its queue.
abbrev pub given_in : ℕ → ℕ → (Text → List Entry) → Outstanding → Option Entry
given_in c h queues o = find (is_held_as (holder_of c h o)) (queues o.queue)

-- The queues without the entry that is held by the delivery `o` of channel `h` of connection `c`.
abbrev pub without_given : ℕ → ℕ → (Text → List Entry) → Outstanding → Text → List Entry
without_given c h queues o = with_queue queues o.queue (without_first (is_held_as (holder_of c h o)) (queues o.queue))

-- The queues after the return of the delivery `o` of channel `h` of connection `c`:
-- the entry that it holds is ready again, in its place, and marked as redelivered.
abbrev pub with_returned : ℕ → ℕ → (Text → List Entry) → Outstanding → Text → List Entry
with_returned c h queues o = with_queue queues o.queue (map (freed (is_under (holder_of c h o))) (queues o.queue))

-- The note that the message, if there is one, left `queue` for `cause`.
abbrev pub left_note : Cause → Text → Option Entry → List Note
left_note cause queue None = []
left_note cause queue (Some e) = Left e.message.number queue cause ∷ []

-- What is done with each message that is settled: it leaves its queue for a cause, it
-- leaves it by a rejection and may become a dead letter, or it is ready there again.
pub data Settlement : Type 0 where
  Leaves : (cause : Cause) → Settlement
  Rejects : Settlement
  Returns : Settlement

-- What a rejection does: it requeues the message, or the message leaves its queue.
abbrev pub of_rejected : Bool → Settlement
of_rejected requeue = if requeue then Returns else Rejects

-- The deliveries of channel `h` of connection `c` leave their queues for `cause`, one after another in the order of their tags, and each is noted.
abbrev pub AreLeft : Cause → ℕ → ℕ → List Outstanding → (Text → List Entry) → List Note → (Text → List Entry) → Type 0
AreLeft cause c h [] old notes new = (notes ≡ []) × ((q : Text) → new q ≡ old q)
AreLeft cause c h (o ∷ os) old notes new =
    (mid : Text → List Entry) × (rest : List Note) × ((q : Text) → mid q ≡ without_given c h old o q)
    × (notes ≡ left_note cause o.queue (given_in c h old o) ++ rest) × AreLeft cause c h os mid rest new

-- The deliveries are rejected, one after another in the order of their tags. Each leaves its queue, and dies
-- there if the queue has a dead-letter exchange; the next finds the queues as these dead letters left them.
abbrev pub AreRejected : Topology → ℕ → ℕ → List Outstanding → (Text → List Entry) → List Note → (Text → List Entry) → Type 0
AreRejected t c h [] old notes new = (notes ≡ []) × ((q : Text) → new q ≡ old q)
AreRejected t c h (o ∷ os) old notes new =
    (mid : Text → List Entry) × (first : List Note) × (rest : List Note) × MayDie t o.queue (without_given c h old o) first mid (given_in c h old o)
    × (notes ≡ first ++ rest) × AreRejected t c h os mid rest new

-- The messages of the deliveries are ready again, each in its place.
abbrev pub AreReturned : ℕ → ℕ → List Outstanding → (Text → List Entry) → (Text → List Entry) → Type 0
AreReturned c h [] old new = (q : Text) → new q ≡ old q
AreReturned c h (o ∷ os) old new = (mid : Text → List Entry) × ((q : Text) → mid q ≡ with_returned c h old o q) × AreReturned c h os mid new

-- The deliveries are settled as the `Settlement` says.
abbrev pub AreSettled : Topology → Settlement → ℕ → ℕ → List Outstanding → (Text → List Entry) → List Note → (Text → List Entry) → Type 0
AreSettled t (Leaves cause) c h os old notes new = AreLeft cause c h os old notes new
AreSettled t Rejects c h os old notes new = AreRejected t c h os old notes new
AreSettled t Returns c h os old notes new = (notes ≡ []) × AreReturned c h os old new

-- ---- purging

-- The notes that each of the messages `gone` left `queue` by a purge.
abbrev pub purge_notes : Text → List Entry → List Note
purge_notes queue gone = map (λ (e : Entry). Left e.message.number queue Purged) gone

-- The broker after a purge of `queue`: exactly its ready messages are gone (AMQP 0-9-1, queue.purge).
abbrev pub after_purge : Broker → Text → Broker
after_purge b queue = record b { queue = with_queue b.queue queue (filter (λ e. not (is_ready e)) (b.queue queue)) }
