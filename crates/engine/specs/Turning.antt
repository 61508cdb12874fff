-- The effects of a turn on the broker and on one connection.
use Rattle.std.specs.Prelude.{◌≡◌, ◌⊎◌, ◌≤◌, ◌<◌, ◌++◌, ℕ, List, Bool, true, false, Option, Some, None, Result, Ok, Err}
use Rattle.std.specs.List.{AllByRecursion}
use Rattle.model.specs.Broker.{Broker}
use Rattle.model.specs.Phases.{Session}
use Rattle.model.specs.Commands.{Stream, Ends}
use Rattle.model.specs.Spelling.{receiver, spelling, IsSpelled}
use Rattle.model.specs.Arrivals.{Reads, SameToCome, IsSaid, is_ended, is_past_bound, under_session}
use Rattle.model.specs.declared.events.Send.{Send}
use Rattle.model.specs.declared.events.Event.{Event}
use Rattle.model.specs.declared.messages.User.{User}
use Rattle.model.specs.declared.notes.Note.{Note}
use Rattle.broker.specs.Turns.{WithTurn, broker_of}
use Rattle.broker.specs.Waiting.{NobodyIsPutBack}
use Rattle.assembly.specs.Held.{stream_of}
use Rattle.outputs.specs.Waiting.{HoldsNone}
use Rattle.engine.specs.Performing.{Rules, DecidesByPhase, PausesOr, rules_in}
use Rattle.engine.specs.Reading.{kept_of, kept_for, to_read}
use Rattle.engine.specs.declared.connection.Connection.{Connection}
use Rattle.engine.specs.declared.turning.Turn.{Turn}
use Rattle.engine.specs.declared.turning.Turn.TheVariants as turn

-- An event of connection c was performed: the replies are appended to its output, and the broker pauses it if that brought the output past the bound.
pub record Performed (r : Rules) (b : Broker) (c : ℕ) (s : Session) (output : List ℕ) (event : Event)
    (notes : List Note) (new_b : Broker) (new_s : Session) (new_output : List ℕ) : Type 0 where
  pub sends : List Send
  pub mid : Broker
  pub decides : DecidesByPhase c s.phase r b s event sends notes mid new_s
  pub own : AllByRecursion (λ s. receiver s ≡ c) sends
  pub bounded : s.frame_max ≤ 131072
  pub spelled : AllByRecursion (IsSpelled s.frame_max) sends
  pub put : new_output ≡ output ++ spelling s.frame_max sends
  pub pauses : PausesOr r.topology c false (is_past_bound new_output) mid new_b

-- The event was performed: nothing is pending, no further byte was read, and the stream has the session's settings unless it broke.
pub record ConnectionPerformed (r : Rules) (b : Broker) (old : Connection) (event : Event) (notes : List Note)
    (new_b : Broker) (new : Connection) : Type 0 where
  pub performed : Performed r b old.number old.session old.output.bytes event notes new_b new.session new.output.bytes
  pub number : new.number ≡ old.number
  pub none_kept : new.kept ≡ None
  pub stream : old.stream.fault ≡ None → stream_of new.stream ≡ under_session new.session (stream_of old.stream)

-- the turn performed this event
abbrev pub DidEvent : Rules → Broker → Connection → Event → Turn → Broker → Connection → Type 0
DidEvent r b old event (turn.Did notes) new_b new = ConnectionPerformed r b old event notes.items new_b new
DidEvent r b old event turn.Idle new_b new = ⊥
DidEvent r b old event turn.Paused new_b new = ⊥
DidEvent r b old event turn.Over new_b new = ⊥

-- the connection is neither over nor paused
abbrev pub MayTurn : Connection → Type 0
MayTurn l = (is_ended l.session.phase ≡ false) × (is_past_bound l.output.bytes ≡ false)

-- Nothing was performed, and the commands still to come from the connection are unchanged.
pub record ConnectionWaits (b : Broker) (old : Connection) (new_b : Broker) (new : Connection) : Type 0 where
  pub broker : new_b ≡ b
  pub number : new.number ≡ old.number
  pub session : new.session ≡ old.session
  pub output : new.output.bytes ≡ old.output.bytes
  pub coming : SameToCome (kept_of old.kept) (stream_of old.stream) (kept_of new.kept) (stream_of new.stream)

-- The connection is unchanged, except that a fault is no longer pending and that an empty output holds no storage.
pub record ConnectionStays (old new : Connection) : Type 0 where
  pub rest : new ≡ record old { kept = kept_for old.kept; output = new.output }
  pub bytes : new.output.bytes ≡ old.output.bytes
  pub none : HoldsNone new.output

-- There was nothing to perform.
pub record DidNothing (b : WithTurn) (old : Connection) (what : Turn) (new_b : WithTurn) (new : Connection) : Type 0 where
  pub idle : what ≡ turn.Idle
  pub broker : new_b ≡ b
  pub connection : ConnectionStays old new

-- the turn performed the pending event, if any
abbrev pub DidNext : Rules → WithTurn → Connection → (kept : Option Event) → Turn → WithTurn → Connection → Type 0
DidNext r b old (Some event) what new_b new = DidEvent r (broker_of b) old event what (broker_of new_b) new × NobodyIsPutBack b new_b
DidNext r b old None what new_b new = DidNothing b old what new_b new

-- The next event was read and performed. Nothing is pending, and the stream continues behind that event, with the session's settings.
pub record ConnectionDid (r : Rules) (b : Broker) (old : Connection) (notes : List Note) (new_b : Broker) (new : Connection) : Type 0 where
  pub event : Event
  pub next : Stream
  pub read : Reads old.number (kept_of old.kept) (stream_of old.stream) event next
  pub said : IsSaid event
  pub performed : Performed r b old.number old.session old.output.bytes event notes new_b new.session new.output.bytes
  pub number : new.number ≡ old.number
  pub none_kept : new.kept ≡ None
  -- the stream has the session's settings, and less is left to read; or the connection is over, as after a fault
  pub follows : (stream_of new.stream ≡ under_session new.session next) ⊎ (is_ended new.session.phase ≡ true)
  pub fewer : (to_read None (stream_of new.stream) < to_read (kept_of old.kept) (stream_of old.stream)) ⊎ (is_ended new.session.phase ≡ true)

-- Nothing was performed, since neither a whole command nor a fault is left to read.
pub record ConnectionIdle (b : Broker) (old : Connection) (new_b : Broker) (new : Connection) : Type 0 where
  pub waits : ConnectionWaits b old new_b new
  pub none_kept : old.kept ≡ None
  pub ends : Ends (stream_of old.stream) None

-- neither the broker nor the connection has changed
pub record ConnectionSame (b : Broker) (old : Connection) (new_b : Broker) (new : Connection) : Type 0 where
  pub broker : new_b ≡ b
  pub connection : new ≡ old

-- what each result of a connection's turn means: what was performed, or why nothing was
abbrev pub ConnectionTook : Rules → Broker → Connection → Turn → Broker → Connection → Type 0
ConnectionTook r b old (turn.Did notes) new_b new = (is_ended old.session.phase ≡ false)
    × (is_past_bound old.output.bytes ≡ false) × ConnectionDid r b old notes.items new_b new
ConnectionTook r b old turn.Idle new_b new = (is_ended old.session.phase ≡ false) × ConnectionIdle b old new_b new
ConnectionTook r b old turn.Paused new_b new = (is_ended old.session.phase ≡ false) × (is_past_bound old.output.bytes ≡ true) × ConnectionSame b old new_b new
ConnectionTook r b old turn.Over new_b new = (is_ended old.session.phase ≡ true) × ConnectionSame b old new_b new

-- `ConnectionTook`, by the rules in force, from the broker `b` with its turns to `new_b`
abbrev pub TakesTurn : List User → WithTurn → Connection → Turn → WithTurn → Connection → Type 0
TakesTurn users b old what new_b new = ConnectionTook (rules_in b users) (broker_of b) old what (broker_of new_b) new

-- `P` holds if nothing was left to perform
abbrev pub OnIdle : Turn → Type 0 → Type 0
OnIdle turn.Idle P = P
OnIdle (turn.Did notes) P = Unit {0}
OnIdle turn.Paused P = Unit {0}
OnIdle turn.Over P = Unit {0}

-- whether the turn performed something
abbrev pub has_performed : {E : Type 0} → Result Turn E → Bool
has_performed (Ok (turn.Did notes)) = true
has_performed (Ok turn.Idle) = false
has_performed (Ok turn.Paused) = false
has_performed (Ok turn.Over) = false
has_performed (Err e) = false
