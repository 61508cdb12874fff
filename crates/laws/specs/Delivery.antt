-- Certified delivery, over every list of arrivals, reloads included.
use Rattle.std.specs.Prelude.{◌≡◌, ◌++◌, ℕ, List}
use Rattle.model.specs.Frames.{Frame}
use Rattle.model.specs.State.{Config}
use Rattle.model.specs.Run.{Happening, put_out}
use Rattle.model.specs.History.{Occurrence}
use Rattle.model.specs.Consistent.{IsConsistent}
use Rattle.model.specs.Arrivals.{World, new_world, Turns, Pumps, Plays, Shows, Seen}
use Rattle.model.specs.Acks.{IsReading}
use Rattle.model.specs.Nacks.{Confirms}
use Rattle.model.specs.Headline.{IsSound, KeepsEvents, KeepsPromises}
use Rattle.model.specs.declared.events.Arrival.{Arrival}
use Rattle.laws.specs.Reloading.{AreOffered}

-- A client can read an output in one way only.
abbrev pub OneReading : Type 0
OneReading = (output : List ℕ) (fs gs : List Frame) → IsReading output fs → IsReading output gs → fs ≡ gs

-- In a consistent world, a turn keeps the promises of its events: a command or a fault, and the pause that it brings.
abbrev pub TurnsKeep : Type 0
TurnsKeep = (old new : World) (c : ℕ) (hs : List Happening) → IsSound old.config → IsConsistent old → Turns old c hs new
    → KeepsEvents old.state.broker hs new.state.broker

-- In a consistent world, a pump keeps the promises of its events: a delivery and the pause that it brings.
abbrev pub PumpsKeep : Type 0
PumpsKeep = (old new : World) (hs : List Happening) → IsSound old.config → IsConsistent old → Pumps old hs new
    → KeepsEvents old.state.broker hs new.state.broker

-- What a turn puts out for its connection is appended to what was put out before,
-- and has the acks and the nacks of the turn's own publishes.
abbrev pub TurnsConfirm : Type 0
TurnsConfirm = (old new : World) (c : ℕ) (hs : List Happening) → Turns old c hs new
    → ((new.wire c).output ≡ (old.wire c).output ++ put_out c hs) × Confirms c hs (put_out c hs)

-- Whatever arrives, the promises of the headline are kept by what happened and by what was seen, if what each reload offers is sound.
abbrev pub HeadlineHolds : Config → Type 0
HeadlineHolds f = (arrivals : List (Arrival Config)) (os : List Occurrence) (w : World) (seen : Seen)
    → IsSound f → AreOffered arrivals → Plays (new_world f) arrivals os w → Shows os w seen → KeepsPromises f os w.state.broker seen.connections
