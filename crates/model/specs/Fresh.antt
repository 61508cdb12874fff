-- The redelivered mark: a message enters a queue at its end and without the mark, and gets it only after it was given
-- out (AMQP 0-9-1, section 4.7, "Content Ordering Guarantee", and basic.deliver, redelivered).
use Rattle.std.specs.Prelude.{◌≡◌, ℕ, List, ◌++◌, map, true, false}
use Rattle.std.specs.List.{AllByRecursion}
use Rattle.model.specs.Words.{Text}
use Rattle.model.specs.Topology.{IsIn}
use Rattle.model.specs.Entries.{number_of}
use Rattle.model.specs.Order.{is_fresh, entered}
use Rattle.model.specs.Run.{Happening}
use Rattle.model.specs.declared.messages.Entry.{Entry}

-- The entries end with messages of exactly these `numbers`, in this order, each ready and not marked as redelivered.
pub record EndsFresh (entries : List Entry) (numbers : List ℕ) : Type 0 where
  pub stayed : List Entry
  pub came : List Entry
  pub all : entries ≡ stayed ++ came
  pub numbered : map number_of came ≡ numbers
  pub fresh : AllByRecursion (λ (e : Entry). is_fresh e ≡ true) came

-- After the event each queue ends with the messages that entered it by the event, in the order of the notes, each ready and not marked as redelivered.
abbrev pub EnterFresh : Happening → Type 0
EnterFresh h = (q : Text) → EndsFresh (h.after.broker.queue q) (entered q h.notes)

-- A message of this `number` is among the entries, and was given out since it entered: it is held, or marked as redelivered.
pub record WasGivenOut (entries : List Entry) (number : ℕ) : Type 0 where
  pub entry : Entry
  pub stood : IsIn entry entries
  pub numbered : number_of entry ≡ number
  pub given : is_fresh entry ≡ false

-- For each message marked as redelivered after the event, a message of its number was in the same queue before the event, and had been given out.
abbrev pub MarksWhatWasGiven : Happening → Type 0
MarksWhatWasGiven h = (q : Text) (e : Entry) → IsIn e (h.after.broker.queue q) → e.message.redelivered ≡ true
    → WasGivenOut (h.before.broker.queue q) (number_of e)
