-- The contracts of an engine's calls: first over one connection, then over the list of connections, then over the world.
use Rattle.std.specs.Prelude.{◌≡◌, ◌+◌, ◌<◌, ℕ, List, [], ◌∷◌, ◌++◌, length, drop, true, false, Option, Some, None, Result, Ok}
use Rattle.std.specs.Prelude.{Err, if◌then◌else◌, get_or, set}
use Rattle.std.specs.List.{remove}
use Rattle.model.specs.Topology.{Topology}
use Rattle.model.specs.Broker.{Broker, with_one}
use Rattle.model.specs.Commands.{heard}
use Rattle.model.specs.Phases.{no_session}
use Rattle.model.specs.Run.{Happening, notes_of, put_out}
use Rattle.model.specs.Arrivals.{World, Turns, Waits, IsIdle, is_over, is_paused, is_ended, is_past_bound}
use Rattle.model.specs.Headline.{KeepsEvents}
use Rattle.model.specs.Tracing.{AreSafe, NoneSurvived}
use Rattle.model.specs.Nacks.{Confirms}
use Rattle.model.specs.declared.notes.Note.{Note}
use Rattle.assembly.specs.Held.{stream_of}
use Rattle.broker.specs.Turns.{topology_kept}
use Rattle.engine.specs.Reading.{IsKeptEvent, HasMore, kept_of, to_read}
use Rattle.engine.specs.Performing.{Rules, PausesOr}
use Rattle.engine.specs.Turning.{ConnectionTook, ConnectionWaits, MayTurn}
use Rattle.engine.specs.World.{Parts, connection_in, session_of, wire_of, is_connection_gone}
use Rattle.engine.specs.declared.connection.Connection.{Connection}
use Rattle.engine.specs.declared.turning.Turn.{Turn}
use Rattle.engine.specs.declared.turning.Turn.TheVariants as turn

-- ---- one connection

-- how many steps of reading and performing a connection has left, at most
abbrev pub left_to_read : Connection → ℕ
left_to_read l = if is_ended l.session.phase then 0 else to_read (kept_of l.kept) (stream_of l.stream) + 1

-- the sum of `left_to_read` over all connections
abbrev pub left_in : List Connection → ℕ
left_in [] = 0
left_in (l ∷ ls) = left_to_read l + left_in ls

-- A turn failed to allocate: the connection was neither over nor paused and had something to perform, and nothing was performed.
pub record ConnectionWants (b : Broker) (old : Connection) (new_b : Broker) (new : Connection) : Type 0 where
  pub awake : MayTurn old
  pub more : HasMore (kept_of old.kept) (stream_of old.stream)
  pub waits : ConnectionWaits b old new_b new

-- the state after a turn of one connection: as the outcome says, or with nothing performed if an allocation failed
abbrev pub ConnectionTookOr : {E : Type 0} → Rules → Broker → Connection → Result Turn E → Broker → Connection → Type 0
ConnectionTookOr r b old (Ok what) new_b new = ConnectionTook r b old what new_b new
ConnectionTookOr r b old (Err e) new_b new = ConnectionWants b old new_b new

-- `n` bytes were taken from the front of the output, and the broker has resumed the connection if its output fell below the bound.
pub record ConnectionSent (t : Topology) (b : Broker) (old : Connection) (n : ℕ) (new_b : Broker) (new : Connection) : Type 0 where
  pub number : new.number ≡ old.number
  pub session : new.session ≡ old.session
  pub kept : new.kept ≡ old.kept
  pub stream : new.stream ≡ old.stream
  pub output : new.output.bytes ≡ drop n old.output.bytes
  pub pauses : PausesOr t old.number (is_past_bound old.output.bytes) (is_past_bound new.output.bytes) b new_b

-- `bytes` were appended to the connection's unread input, unless the connection is over.
pub record ConnectionFed (old : Connection) (bytes : List ℕ) (new : Connection) : Type 0 where
  pub number : new.number ≡ old.number
  pub session : new.session ≡ old.session
  pub kept : new.kept ≡ old.kept
  pub output : new.output ≡ old.output
  pub stream : is_ended old.session.phase ≡ false → stream_of new.stream ≡ heard (stream_of old.stream) bytes
  pub fault : new.stream.fault ≡ old.stream.fault
  -- a connection that is over is unchanged
  pub over : is_ended old.session.phase ≡ true → new ≡ old

-- ---- the connections

-- how many more bytes a connection's input takes before it has to grow
abbrev pub room_in : Option Connection → ℕ
room_in None = 0
room_in (Some l) = l.stream.room

-- connection `c` is in the list
abbrev pub HasConnection : List Connection → ℕ → Type 0
HasConnection ls c = (l : Connection) × (connection_in ls c ≡ Some l)

-- `i` is the index of connection `c`, or `None` if it isn't in the list
abbrev pub IsConnectionIndex : List Connection → ℕ → Option ℕ → Type 0
IsConnectionIndex ls c None = connection_in ls c ≡ None
IsConnectionIndex ls c (Some i) = (i < length ls) × ((l : Connection) → (get_or ls i l).number ≡ c)

-- the list with `l` at index `i`, or without that entry if `l` is gone
abbrev pub put_back : List Connection → ℕ → Connection → List Connection
put_back ls i l = if is_connection_gone l then remove ls i else set ls i l

-- the connection at index `i` is not gone
abbrev pub IsNotGone : List Connection → ℕ → Type 0
IsNotGone ls i = (l : Connection) → get_or ls i l ≡ l → is_connection_gone l ≡ false

-- the connection `l` at index `i` is removed if it is gone; a gone connection keeps no agreed limits
pub record IsSwept (ls : List Connection) (i : ℕ) (l : Connection) (new_ls : List Connection) : Type 0 where
  pub left : new_ls ≡ (if is_connection_gone l then remove ls i else ls)
  pub over : is_connection_gone l ≡ true → l.session ≡ no_session

-- The connection at index `i` changed from `old` to `new`.
pub record Changes (ls : List Connection) (i : ℕ) (old new : Connection) (new_ls : List Connection) : Type 0 where
  pub within : i < length ls
  pub here : get_or ls i old ≡ old
  pub number : new.number ≡ old.number
  pub kept : IsKeptEvent old.number old.kept old.stream.fault → IsKeptEvent new.number new.kept new.stream.fault
  pub left : new_ls ≡ put_back ls i new
  pub over : is_connection_gone new ≡ true → new.session ≡ no_session

-- One turn of the connection at index `i`.
pub record ConnectionsTook {E : Type 0} (r : Rules) (b : Broker) (ls : List Connection) (i : ℕ)
    (what : Result Turn E) (new_b : Broker) (new_ls : List Connection) : Type 0 where
  pub old : Connection
  pub new : Connection
  pub changes : Changes ls i old new new_ls
  pub took : ConnectionTookOr r b old what new_b new

-- `n` bytes of output of the connection at index `i` were taken.
pub record ConnectionsSent (t : Topology) (b : Broker) (ls : List Connection) (i n : ℕ) (new_b : Broker) (new_ls : List Connection) : Type 0 where
  pub old : Connection
  pub new : Connection
  pub changes : Changes ls i old new new_ls
  pub sent : ConnectionSent t b old n new_b new

-- The connection at index `i` was fed `bytes`.
pub record ConnectionsFed (ls : List Connection) (i : ℕ) (bytes : List ℕ) (new_ls : List Connection) : Type 0 where
  pub within : i < length ls
  pub old : Connection
  pub here : get_or ls i old ≡ old
  pub new : Connection
  pub fed : ConnectionFed old bytes new
  pub left : new_ls ≡ set ls i new

-- ---- the engine

-- how many more bytes the input of connection `c` takes before it has to grow
abbrev pub room_for : Parts → ℕ → ℕ
room_for p c = room_in (connection_in p.connections c)

-- connection `l` became `new_l`, and nothing else changed but the broker
pub record Becomes (old : Parts) (l new_l : Connection) (new : Parts) : Type 0 where
  pub topology : topology_kept new.broker ≡ topology_kept old.broker
  pub guarantees : new.guarantees ≡ old.guarantees
  pub users : new.users ≡ old.users
  pub given : new.given ≡ old.given
  pub sessions : (d : ℕ) → session_of (connection_in new.connections d) ≡ with_one (λ c. session_of (connection_in old.connections c)) l.number new_l.session d
  pub wires : (d : ℕ) → wire_of (connection_in new.connections d) ≡ with_one (λ c. wire_of (connection_in old.connections c)) l.number (wire_of (Some new_l)) d

-- if no message was in a queue when a reload was done, none is, or can come by dead-lettering, where a guarantee forbids it
abbrev pub IsSafeUnlessReloaded : World → Type 0
IsSafeUnlessReloaded w = NoneSurvived w.state.broker → AreSafe w.config.topology w.config.guarantees w.state.broker

-- The next command or fault of connection `c` was performed, and certified delivery's promises hold of what happened.
pub record IsTurn (old : World) (c : ℕ) (notes : List Note) (new : World) : Type 0 where
  pub happenings : List Happening
  pub noted : notes ≡ notes_of happenings
  pub turns : Turns old c happenings new
  pub promises : KeepsEvents old.state.broker happenings new.state.broker
  -- its replies are appended to the connection's output
  pub output : (new.wire c).output ≡ (old.wire c).output ++ put_out c happenings
  -- the acks and nacks that are put out are those of the publishes that were confirmed in this turn
  pub confirms : Confirms c happenings (put_out c happenings)

-- what each result of a turn means: what was performed, or why nothing was
abbrev pub Turned : World → ℕ → Turn → World → Type 0
Turned old c (turn.Did notes) new = IsTurn old c notes.items new
Turned old c turn.Idle new = (is_over old c ≡ false) × IsIdle old c × Waits old c new
Turned old c turn.Paused new = (is_over old c ≡ false) × (is_paused old c ≡ true) × Waits old c new
Turned old c turn.Over new = (is_over old c ≡ true) × Waits old c new

-- `P` holds if something was performed
abbrev pub OnDid : Turn → Type 0 → Type 0
OnDid (turn.Did notes) P = P
OnDid turn.Idle P = Unit {0}
OnDid turn.Paused P = Unit {0}
OnDid turn.Over P = Unit {0}
