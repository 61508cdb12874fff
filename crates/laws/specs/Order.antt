-- The order in which the messages of a queue are given out for the first time, and what enters it.
use Rattle.std.specs.Prelude.{ℕ, List, ◌++◌}
use Rattle.model.specs.Words.{Text}
use Rattle.model.specs.State.{State, Step}
use Rattle.model.specs.Run.{Happening, Run, notes_of}
use Rattle.model.specs.Order.{FirstGiven, IsPart, waiting, entered, IsAfterThoseAhead, HoldsWhatWasGiven}
use Rattle.model.specs.Fresh.{EnterFresh, MarksWhatWasGiven}

-- In every run, messages are given out of a queue for the first time in the order in which they were in it at the beginning and then entered it.
abbrev pub GivenInOrder : Type 0
GivenInOrder = (q : Text) (hs : List Happening) (old new : State) (ns : List ℕ) → Run old hs new → FirstGiven q hs ns
    → IsPart ns (waiting (old.broker.queue q) ++ entered q (notes_of hs))

-- When an entry is given out of a queue, no entry ahead of it there is ready.
abbrev pub GivenAfterThoseAhead : Type 0
GivenAfterThoseAhead = (h : Happening) → IsAfterThoseAhead h

-- A message becomes held only by being given out.
abbrev pub HeldAreGiven : Type 0
HeldAreGiven = (h : Happening) → Step h.config h.before h.event h.sends h.notes h.after → HoldsWhatWasGiven h

-- What enters a queue by a step is at its end, ready and not marked as redelivered.
abbrev pub EnteringIsFresh : Type 0
EnteringIsFresh = (h : Happening) → Step h.config h.before h.event h.sends h.notes h.after → EnterFresh h

-- Only a message that was given out of its queue gets the redelivered mark.
abbrev pub MarksAreGiven : Type 0
MarksAreGiven = (h : Happening) → Step h.config h.before h.event h.sends h.notes h.after → MarksWhatWasGiven h
