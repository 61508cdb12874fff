-- When the first eight bytes of a connection are read: they are awaited in Header, and in any other phase frames are read.
use Rattle.std.specs.Prelude.{◌≡◌, ℕ, List, Bool, true, false, Option, Some, None}
use Rattle.model.specs.State.{Config}
use Rattle.model.specs.History.{Occurrence}
use Rattle.model.specs.Commands.{Stream}
use Rattle.model.specs.Arrivals.{World, new_world, Plays}
use Rattle.model.specs.declared.events.Command.{Command}
use Rattle.model.specs.declared.events.Event.{Event}
use Rattle.model.specs.declared.events.Event.TheVariants.{First}
use Rattle.model.specs.declared.events.Arrival.{Arrival}
use Rattle.model.specs.declared.events.Phase.{Phase}
use Rattle.model.specs.declared.events.Phase.TheVariants as phase
use Rattle.laws.specs.Streams.{is_head}

-- Whether the phase awaits the first eight bytes.
abbrev pub is_header : Phase → Bool
is_header phase.Header = true
is_header p = false

-- Whether the event performs the first eight bytes.
abbrev pub is_first : Event → Bool
is_first (First c bytes) = true
is_first e = false

-- `said` says whether the first eight bytes are still to be performed: the stream awaits them, or they are the command that is kept.
abbrev pub AreToCome : Bool → Option Command → Stream → Type 0
AreToCome said None s = s.is_new ≡ said
AreToCome said (Some c) s = (is_head c ≡ said) × (s.is_new ≡ false)

-- The first eight bytes of connection `c` are still to be performed exactly while its phase awaits them.
abbrev pub ReadsByPhase : World → ℕ → Type 0
ReadsByPhase w c = AreToCome (is_header (w.state.session c).phase) (w.wire c).kept (w.wire c).stream

-- Whatever arrives, `ReadsByPhase` is true of each connection.
abbrev pub OpeningsReadByPhase : Type 0
OpeningsReadByPhase = (f : Config) (arrivals : List (Arrival Config)) (os : List Occurrence) (w : World) → Plays (new_world f) arrivals os w
    → (c : ℕ) → ReadsByPhase w c
