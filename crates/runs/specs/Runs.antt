-- Whole runs, and what is promised of them.
use Rattle.std.specs.Prelude.{ℕ, List, map}
use Rattle.model.specs.Run.{Happening}
use Rattle.model.specs.History.{Occurrence, Of_event}
use Rattle.model.specs.State.{Config}
use Rattle.model.specs.Arrivals.{World, Answers, WorksOff, Plays, Shows, Seen, new_world}
use Rattle.model.specs.Headline.{KeepsPromises}
use Rattle.model.specs.declared.events.Arrival.{Arrival}
use Rattle.laws.specs.Reloading.{IsOffered, AreOffered}
use Rattle.runs.specs.Recorded.{RecordsEvents}

-- all that is left to perform for a connection is performed, and recorded
abbrev pub WorksAndRecords : World → ℕ → Seen → World → Seen → Type 0
WorksAndRecords old c seen new after = (hs : List Happening) × WorksOff old c hs new × RecordsEvents old seen (map Of_event hs) new after

-- all that one arrival brings is done, and recorded; if it is a reload, what it offers is sound
abbrev pub AnswersAndRecords : World → Arrival Config → Seen → World → Seen → Type 0
AnswersAndRecords old arrival seen new after = (os : List Occurrence) × IsOffered arrival × Answers old arrival os new × RecordsEvents old seen os new after

-- all that a list of arrivals brings is done, and recorded; what its reloads offer is sound
abbrev pub PlaysAndRecords : World → List (Arrival Config) → Seen → World → Seen → Type 0
PlaysAndRecords old arrivals seen new after = (os : List Occurrence) × AreOffered arrivals × Plays old arrivals os new × RecordsEvents old seen os new after

-- The arrivals were played one by one, from a world without connections to `last`, and what happened was recorded in `seen`.
pub record IsRunOf (f : Config) (arrivals : List (Arrival Config)) (last : World) (seen : Seen) : Type 0 where
  pub occurrences : List Occurrence
  pub plays : Plays (new_world f) arrivals occurrences last
  pub shows : Shows occurrences last seen
  -- the promises of certified delivery are kept
  pub promises : KeepsPromises f occurrences last.state.broker seen.connections
