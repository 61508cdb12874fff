-- No consumer starves: what an engine's calls do to consumers that wait, and to their order in each queue (own).
use Rattle.std.specs.Prelude.{◌≡◌, ℕ, List, Option, Some, None, MatchOption}
use Rattle.model.specs.Commands.{Stream}
use Rattle.model.specs.Arrivals.{Wire, Reads}
use Rattle.model.specs.declared.events.Event.{Event}
use Rattle.model.specs.declared.notes.Note.{Note}
use Rattle.commands.specs.Picked.{IsPick}
use Rattle.commands.specs.declared.picks.Pick.{Pick}
use Rattle.broker.specs.Turns.{WithTurn, topology_kept, broker_of}
use Rattle.broker.specs.Waiting.{NobodyIsPutBack, NoneIsLater, LinesStay, IsPickedInTurn, ServesSoon}
use Rattle.runs.specs.declared.delivered.Delivered.{Delivered}
use Rattle.engine.specs.Pumping.{IsPumpTo}
use Rattle.engine.specs.World.{Parts, world_of}
use Rattle.engine.specs.declared.turning.Turn.{Turn}
use Rattle.engine.specs.declared.turning.Turn.TheVariants as turn

-- ---- calls that deliver nothing

-- The picked consumer, if any, stays picked, no consumer is added, and none has more consumers before it than it had.
pub record KeepsTurns (old new : WithTurn) : Type 0 where
  pub turn : new.turn ≡ old.turn
  pub topology : topology_kept new ≡ topology_kept old
  pub later : NoneIsLater old new

-- The next event of connection c was performed: no consumer is put back, and a new one, if any, is added behind all others.
pub record PerformsNext (c : ℕ) (w : Wire) (old new : WithTurn) : Type 0 where
  pub event : Event
  pub next : Stream
  pub read : Reads c w.kept w.stream event next
  pub turn : new.turn ≡ old.turn
  pub topology : topology_kept new ≡ topology_kept old
  pub back : NobodyIsPutBack old new

-- what a turn of connection `c` leaves: the broker is unchanged unless something was performed
abbrev pub TurnLeaves : ℕ → Wire → WithTurn → Turn → WithTurn → Type 0
TurnLeaves c w old (turn.Did notes) new = PerformsNext c w old new
TurnLeaves c w old turn.Idle new = new ≡ old
TurnLeaves c w old turn.Paused new = new ≡ old
TurnLeaves c w old turn.Over new = new ≡ old

-- ---- calls that pick a consumer

-- if a consumer is picked already and still can take a message, it is picked again
abbrev pub KeepsPicked : WithTurn → Pick → Type 0
KeepsPicked old picked = (p : Pick) → old.turn ≡ Some p → IsPick (broker_of old) p → picked ≡ p

-- Consumer `picked` gets the turn: again if it was picked before and still can take a message, otherwise in round-robin order. Nothing is delivered.
pub record PicksOne (old new : WithTurn) : Type 0 where
  pub picked : Pick
  pub again : KeepsPicked old picked
  pub turn : new.turn ≡ Some picked
  pub kept : new.kept ≡ old.kept
  pub in_turn : IsPickedInTurn old picked new

-- A consumer of `connection` was picked in its turn, and a message was delivered to it. Each other consumer that waits at the same queue was passed
-- over by few deliveries of that queue, this delivery included, and no consumer is put back.
pub record ServesOne (old : Parts) (connection : ℕ) (notes : List Note) (new : Parts) : Type 0 where
  pub mid : WithTurn
  pub picked : PicksOne old.broker mid
  pub its : picked.picked.connection ≡ connection
  pub served : IsPumpTo (world_of old) picked.picked notes (world_of new)
  pub over : new.broker.turn ≡ None
  pub topology : topology_kept new.broker ≡ topology_kept old.broker
  pub later : NoneIsLater mid new.broker
  pub soon : ServesSoon mid picked.picked

-- No consumer is picked: the order of each queue's consumers is unchanged, and so is everything else.
pub record PicksNobody (old new : WithTurn) : Type 0 where
  pub turn : new.turn ≡ None
  pub kept : new.kept ≡ old.kept
  pub lines : LinesStay old new

-- a consumer was served in its turn, on the connection and with the notes that `did` has (`ServesOne`), or no consumer is picked
abbrev pub ServesOrPicksNobody : Parts → Option Delivered → Parts → Type 0
ServesOrPicksNobody old did new = MatchOption did (PicksNobody old.broker new.broker) (λ d. ServesOne old d.connection d.notes.items new)
