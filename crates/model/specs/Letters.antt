-- What becomes of a message that is rejected: its dead letter goes on (RabbitMQ, "Dead Letter Exchanges").
use Rattle.std.specs.Prelude.{◌≤◌, ◌⊎◌, ℕ, List, [], ◌∷◌, ◌++◌, map, count_by, Bool, false, ◌==◌, ◌&&◌}
use Rattle.std.specs.List.{AllByRecursion}
use Rattle.std.specs.Str.{bytes_eq}
use Rattle.model.specs.Words.{Text}
use Rattle.model.specs.Topology.{Topology, IsIn, queue_names}
use Rattle.model.specs.Routing.{Routes, Picks, Dies, key_after}
use Rattle.model.specs.Run.{Happening}
use Rattle.model.specs.declared.topologies.DeclaredQueue.{DeclaredQueue}
use Rattle.model.specs.declared.messages.Entry.{Entry}
use Rattle.model.specs.declared.notes.Cause.TheVariants.{Rejected}
use Rattle.model.specs.declared.notes.Note.{Note}
use Rattle.model.specs.declared.notes.Note.TheVariants.{Entered, Left}
use Rattle.model.specs.declared.notes.Way.TheVariants as way
use Rattle.model.specs.Broker.{body_bytes}
use Rattle.model.specs.Routed.{Said, with_sizes, note_at}

-- A message with this `key` that is rejected in the queue `q` goes on to the queue `r`: `q` dead-letters to an exchange,
-- and the key that `q` fixes, or else the message's own, is routed from there to `r` (RabbitMQ, "Dead Letter Exchanges").
pub record DiesInto (t : Topology) (q key r : Text) : Type 0 where
  pub last : DeclaredQueue
  pub exchange : Text
  pub dies : Dies t q exchange last
  pub routes : Routes t exchange (key_after last.dead_letter_key key) r

-- A rejection, with the entries that the queues had before the event: the message was in its queue, and its dead letter
-- goes on to `targets`, in the order of the file. `targets` is empty if its queue has no dead-letter exchange.
pub record Rejection (t : Topology) (queues : Text → List Entry) : Type 0 where
  pub queue : Text
  pub entry : Entry
  pub stood : IsIn entry (queues queue)
  pub targets : List Text
  pub routed : Picks (DiesInto t queue entry.message.key) (queue_names t.queues) targets

-- The notes of a rejection: the message left its queue, and then, for each of the targets, the dead letter entered it or that queue was full.
abbrev pub rejection_notes : (t : Topology) (queues : Text → List Entry) → List Said → Rejection t queues → List Note
rejection_notes t queues said r = Left r.entry.message.number r.queue Rejected
    ∷ map (note_at t queues said (body_bytes r.entry) r.entry.message.number way.Dead) r.targets

-- After the first notes of an event, `said`, each with the size of its message, all other notes are
-- of rejections, one after another. A dead letter has the body of its message, and therefore its size.
pub data AreRejections (t : Topology) (queues : Text → List Entry) : List Said → List Note → Type 0 where
  none : {said : List Said} → AreRejections t queues said []
  next : {said : List Said} {rest : List Note} (r : Rejection t queues)
      → AreRejections t queues (said ++ with_sizes (body_bytes r.entry) (rejection_notes t queues said r)) rest
      → AreRejections t queues said (rejection_notes t queues said r ++ rest)

-- The note says neither that a message left a queue by a rejection nor that a dead letter entered one.
abbrev pub IsOfNoRejection : Note → Type 0
IsOfNoRejection (Left n q Rejected) = ⊥
IsOfNoRejection (Entered n q way.Dead) = ⊥
IsOfNoRejection note = Unit {0}

-- Either all notes of the event are of rejections, each with its dead letter, or none says that a message was rejected or that a dead letter entered.
abbrev pub DieAsRouted : Happening → Type 0
DieAsRouted h = AreRejections h.config.topology h.before.broker.queue [] h.notes ⊎ AllByRecursion IsOfNoRejection h.notes

-- Whether the note says that a dead letter of number `n` entered the queue `q`.
abbrev pub is_dead_into : ℕ → Text → Note → Bool
is_dead_into n q (Entered m r way.Dead) = (m == n) && bytes_eq r q
is_dead_into n q note = false

-- Whether the note says that a message of number `n` left a queue by a rejection.
abbrev pub is_rejected : ℕ → Note → Bool
is_rejected n (Left m q Rejected) = m == n
is_rejected n note = false

-- For each number and queue, at most as many dead letters of the number entered the queue as messages of the number were rejected at the event.
abbrev pub DieOnce : Happening → Type 0
DieOnce h = (n : ℕ) (q : Text) → count_by (is_dead_into n q) h.notes ≤ count_by (is_rejected n) h.notes
