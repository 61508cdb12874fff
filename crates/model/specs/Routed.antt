-- What a publish enters: each queue to which it is routed, unless that queue is full (AMQP 0-9-1, section 3.1.3; RabbitMQ, "Queue Length Limit").
use Rattle.std.specs.Prelude.{◌≡◌, ◌+◌, ℕ, List, [], ◌∷◌, ◌++◌, length, map, filter, count_by, Bool, true, false, Option, Some, None, ◌&&◌, if◌then◌else◌}
use Rattle.std.specs.List.{AllByRecursion, sum_by}
use Rattle.std.specs.Str.{bytes_eq}
use Rattle.model.specs.Words.{Text}
use Rattle.model.specs.Topology.{Topology, IsIn, queue_names}
use Rattle.model.specs.Routing.{Routes, Picks}
use Rattle.model.specs.Broker.{queue_named, ready_bytes, refuses}
use Rattle.model.specs.Step.{content_or_none, is_none, returned_notes, confirm_notes}
use Rattle.model.specs.Deliveries.{ready_in}
use Rattle.model.specs.Run.{Happening}
use Rattle.model.specs.declared.messages.Entry.{Entry}
use Rattle.model.specs.declared.methods.Method.TheVariants.{BasicPublish}
use Rattle.model.specs.declared.methods.Publish.{Publish}
use Rattle.model.specs.declared.contents.Content.{Content}
use Rattle.model.specs.declared.events.Event.TheVariants.{Command}
use Rattle.model.specs.declared.notes.Note.{Note}
use Rattle.model.specs.declared.notes.Note.TheVariants.{Published, Entered, Refused}
use Rattle.model.specs.declared.notes.Answer.{Answer}
use Rattle.model.specs.declared.notes.Answer.TheVariants as answer
use Rattle.model.specs.declared.notes.Way.{Way}
use Rattle.model.specs.declared.notes.Way.TheVariants as way

-- Whether the note says that a message entered the queue `q`.
abbrev pub is_entry_into : Text → Note → Bool
is_entry_into q (Entered n r w) = bytes_eq r q
is_entry_into q note = false

-- A note, with the length in bytes of the body of the message that it is about.
pub record Said : Type 0 where
  pub note : Note
  pub size : ℕ

-- The note with this size.
abbrev pub with_size : ℕ → Note → Said
with_size size note = record { note = note; size = size }

-- The notes of one message, each with the size of its body.
abbrev pub with_sizes : ℕ → List Note → List Said
with_sizes size notes = map (with_size size) notes

-- Whether the note of `s` says that a message entered the queue `q`.
abbrev pub is_said_into : Text → Said → Bool
is_said_into q s = is_entry_into q s.note

-- The total size in bytes of the bodies of the messages that entered the queue `q` by the notes `said`.
abbrev pub bytes_into : Text → List Said → ℕ
bytes_into q said = sum_by (λ (s : Said). s.size) (filter (is_said_into q) said)

-- Whether after the notes `said` the queue `q` refuses a message with a body of `size` bytes. Its limits count the
-- messages that were ready before the event and those that entered since (RabbitMQ, "Queue Length Limit", reject-publish).
abbrev pub is_full_after : Topology → (Text → List Entry) → List Said → Text → ℕ → Bool
is_full_after t queues said q size = refuses (queue_named t.queues q) (ready_in (queues q) + count_by (is_said_into q) said)
    (ready_bytes (queues q) + bytes_into q said) size

-- The note of a message with a body of `size` bytes that goes to the queue `q`: it entered `q` in the way `w`, or the queue was full and refused it.
abbrev pub note_at : Topology → (Text → List Entry) → List Said → ℕ → ℕ → Way → Text → Note
note_at t queues said size n w q = if is_full_after t queues said q size then Refused n q else Entered n q w

-- The event is publish `n`, and notes in this order: the publish; for each queue to which it is routed, in the order of
-- the file, that it entered or that the queue was full; that it went back, if it is mandatory and routed nowhere;
-- and, if it has a confirm number, one answer: ack if no queue was full, and nack otherwise.
pub record EntersAsRouted (h : Happening) (n c k : ℕ) (x key : Text) (confirm : Option ℕ) : Type 0 where
  pub publish : Publish
  pub given : Option Content
  pub event : h.event ≡ Command c k (BasicPublish publish) given
  pub exchange : publish.exchange ≡ x
  pub routing_key : publish.routing_key ≡ key
  pub targets : List Text
  pub routed : Picks (Routes h.config.topology x key) (queue_names h.config.topology.queues) targets
  pub goes_back : Bool
  pub reply : Answer
  pub noted : h.notes ≡ Published n c k x key confirm
      ∷ (map (note_at h.config.topology h.before.broker.queue [] (length (content_or_none given).body) n way.Publish) targets
      ++ (returned_notes n goes_back ++ confirm_notes n confirm reply))
  pub returned : goes_back ≡ (publish.mandatory && is_none targets)
  pub acked : reply ≡ answer.Ack
      → AllByRecursion (λ (q : Text). is_full_after h.config.topology h.before.broker.queue [] q (length (content_or_none given).body) ≡ false) targets
  pub nacked : reply ≡ answer.Nack → (q : Text) × IsIn q targets
      × (is_full_after h.config.topology h.before.broker.queue [] q (length (content_or_none given).body) ≡ true)

-- Each publish that the event notes entered queues as `EntersAsRouted` says.
abbrev pub EnterAsRouted : Happening → Type 0
EnterAsRouted h = (n c k : ℕ) (x key : Text) (confirm : Option ℕ) → IsIn (Published n c k x key confirm) h.notes → EntersAsRouted h n c k x key confirm

-- The number of the publish that the note records, if it records one.
abbrev pub number_in : Note → Option ℕ
number_in (Published n c k x key confirm) = Some n
number_in note = None

-- The numbers count up by one, from `first` + 1 to `last`.
abbrev pub CountUp : ℕ → List ℕ → ℕ → Type 0
CountUp first [] last = last ≡ first
CountUp first (n ∷ ns) last = (n ≡ first + 1) × CountUp n ns last
