-- Three properties of a run that follow from those of its single events: each event balances, numbers are counted, and the run balances (own).
use Rattle.std.specs.Prelude.{List}
use Rattle.model.specs.State.{State}
use Rattle.model.specs.Run.{Happening, Run, Balances, Stays, AreCounted, notes_of}

-- In every run each event begins with the broker that the one before it left, and at each event each queue balances for each publish number:
-- as many messages were in it before, or entered it by the event's notes, as left it by these notes or are in it afterwards.
abbrev pub EveryRunStays : Type 0
EveryRunStays = (hs : List Happening) (old new : State) → Run old hs new → Stays old.broker hs new.broker

-- In every run, no message in a queue has a number above the number of publishes counted, if this is so at the beginning of the run.
abbrev pub EveryRunCounts : Type 0
EveryRunCounts = (hs : List Happening) (old new : State) → Run old hs new → AreCounted old.broker → AreCounted new.broker

-- In every run, for each queue and each publish number: as many messages were in the queue or entered it as left it or are in it at the end.
abbrev pub EveryRunBalances : Type 0
EveryRunBalances = (hs : List Happening) (old new : State) → Run old hs new → Balances old.broker (notes_of hs) new.broker
