-- What each call of a machine does to its world.
use Rattle.std.specs.Prelude.{◌≡◌, ◌+◌, ℕ, List, Bool, true, false, Option, Some, None, MatchBool, MatchOption}
use Rattle.model.specs.Run.{Happening, notes_of}
use Rattle.model.specs.Phases.{is_running}
use Rattle.model.specs.Commands.{Stream, opened_stream, running_stream}
use Rattle.model.specs.Arrivals.{World, Same, Waits, Rests, Turns, Opens, Loses, TakesOutput, Delivers, NoneCanDeliver, can_open, is_over, is_gone, with_heard}
use Rattle.model.specs.declared.events.Event.{Event}
use Rattle.model.specs.declared.events.Event.TheVariants as event
use Rattle.model.specs.declared.notes.Note.{Note}
use Rattle.notes.specs.Kept.{Noted}
use Rattle.runs.specs.declared.delivered.Delivered.{Delivered}

-- the broker performs the connection's commands
abbrev pub runs : World → ℕ → Bool
runs w c = is_running (w.state.session c).phase

-- the event `e` opened the next connection, whose stream is `s`; `None` if no further connection can be opened
abbrev pub IsOpened : Event → Stream → World → Option ℕ → World → Type 0
IsOpened e s old None new = (can_open old ≡ false) × Same old new
IsOpened e s old (Some n) new = (can_open old ≡ true) × (n ≡ new.given) × ((hs : List Happening) × Opens old e s hs new)

-- a connection that has sent no byte yet is opened
abbrev pub OpensNew : World → Option ℕ → World → Type 0
OpensNew old opened new = IsOpened (event.Open (old.given + 1)) opened_stream old opened new

-- a connection that is running at once is opened, with channels 1 to `k` open
abbrev pub OpensReady : World → ℕ → Option ℕ → World → Type 0
OpensReady old k opened new = IsOpened (event.Running (old.given + 1) 255 k) running_stream old opened new

-- `bytes` are appended to the connection's input, unless it is over
abbrev pub Hears : World → ℕ → List ℕ → World → Type 0
Hears old c bytes new = MatchBool (is_over old c) (Same old new) (new ≡ with_heard old c bytes)

-- the next command or fault was performed, and its notes are `notes`
abbrev pub Did : World → ℕ → List Note → World → Type 0
Did old c notes new = (hs : List Happening) × (notes ≡ notes_of hs) × Turns old c hs new

-- nothing is left to perform
abbrev pub DidNothing : World → ℕ → World → Type 0
DidNothing old c new = Rests old c × Waits old c new

-- the next command or fault was performed, with the notes that `did` has, or nothing was left to perform
abbrev pub TurnMeans : World → ℕ → Option Noted → World → Type 0
TurnMeans old c did new = MatchOption did (DidNothing old c new) (λ notes. Did old c notes.items new)

-- one delivery was made, to connection `c`, and its notes are `notes`
abbrev pub Pumped : World → ℕ → List Note → World → Type 0
Pumped old c notes new = (hs : List Happening) × (notes ≡ notes_of hs) × Delivers old c hs new

-- no delivery can be made to any connection, and nothing has changed
abbrev pub Idles : World → World → Type 0
Idles old new = NoneCanDeliver old × Same old new

-- a delivery was made, to the connection and with the notes that `did` has, or none can be made
abbrev pub PumpMeans : World → Option Delivered → World → Type 0
PumpMeans old did new = MatchOption did (Idles old new) (λ d. Pumped old d.connection d.notes.items new)

-- `n` bytes of the output are taken, unless the connection is gone
abbrev pub TakesAway : World → ℕ → ℕ → World → Type 0
TakesAway old c n new = MatchBool (is_gone old c) (Same old new) ((hs : List Happening) × TakesOutput old c n hs new)

-- the connection is lost, unless it is gone
abbrev pub IsLost : World → ℕ → World → Type 0
IsLost old c new = MatchBool (is_gone old c) (Same old new) ((hs : List Happening) × Loses old c hs new)
