-- Giving out the first ready message of a queue: it is held, or it leaves the queue if it needs no acknowledgement
-- (AMQP 0-9-1, basic.get and basic.consume, "no-ack").
use Rattle.std.specs.Prelude.{◌≡◌, ◌<◌, ℕ, List, [], Option, None, is_some, find}
use Rattle.model.specs.Words.{Text}
use Rattle.model.specs.Broker.{is_ready}
use Rattle.model.specs.Entries.{is_held_as, held_as, change_first, without_first}
use Rattle.model.specs.Deliveries.{left_note, with_queue}
use Rattle.model.specs.declared.messages.Entry.{Entry}
use Rattle.model.specs.declared.notes.Cause.TheVariants.{Auto}
use Rattle.model.specs.declared.notes.Note.{Note}
use Rattle.depot.specs.Store.{Store, entries_named}
use Rattle.depot.specs.declared.givings.Giving.{Giving}
use Rattle.depot.specs.declared.givings.Giving.TheVariants.{Held, Out}

-- nothing is held in the queue under the new holder's tag
abbrev pub CanGive : Giving → List Entry → Type 0
CanGive (Held holder) entries = find (is_held_as holder) entries ≡ None
CanGive (Out queue) entries = Unit {0}

-- a list with `count` notes and this capacity has capacity for the note, if one is made
abbrev pub HasRoomFor : Giving → ℕ → ℕ → Type 0
HasRoomFor (Held holder) count capacity = Unit {0}
HasRoomFor (Out queue) count capacity = count < capacity

-- the entries of a queue after its first ready message was given out in this way
abbrev pub given_so : Giving → List Entry → List Entry
given_so (Held holder) entries = change_first is_ready (held_as holder) entries
given_so (Out queue) entries = without_first is_ready entries

-- the notes of giving out `first`, the first ready message, in this way
abbrev pub given_notes : Giving → Option Entry → List Note
given_notes (Held holder) first = []
given_notes (Out queue) first = left_note Auto queue first

-- an arrival number is returned exactly if a message is held now
abbrev pub ReturnsArrival : Giving → Option Entry → Option ℕ → Type 0
ReturnsArrival (Held holder) first reported = is_some reported ≡ is_some first
ReturnsArrival (Out queue) first reported = reported ≡ None

-- The first ready message of the queue with this name was given out, if there is one; nothing else changed.
pub record IsTakenFrom (old : Store) (name : Text) (how : Giving) (new : Store) : Type 0 where
  pub queues : (q : Text) → entries_named new q ≡ with_queue (entries_named old) name (given_so how (entries_named old name)) q
  pub counted : new.published ≡ old.published
  pub topology : new.topology ≡ old.topology
