-- The parts of an engine, the world that they represent, and the invariant of an engine.
use Rattle.std.specs.List.{AllByRecursion}
use Rattle.std.specs.Prelude.{◌≡◌, ◌<◌, ◌≤◌, ◌==◌, ◌&&◌, not, nat_lt, if◌then◌else◌, ℕ, List, [], ◌∷◌, length, Bool, true, false, Option, Some, None}
use Rattle.model.specs.Guarantee.{Guarantee, AllHold}
use Rattle.model.specs.Topology.{IsWellFormed}
use Rattle.model.specs.Commands.{Stream}
use Rattle.model.specs.Phases.{Session, no_session}
use Rattle.model.specs.State.{Config, State}
use Rattle.model.specs.Arrivals.{Wire, World, new_wire, is_ended}
use Rattle.model.specs.Consistent.{IsConsistent}
use Rattle.model.specs.Naming.{AreNamed}
use Rattle.model.specs.declared.messages.User.{User}
use Rattle.assembly.specs.Held.{stream_of}
use Rattle.broker.specs.Turns as broker
use Rattle.broker.specs.Turns.{topology_kept, broker_of}
use Rattle.engine.specs.Reading.{IsKeptEvent, kept_of}
use Rattle.engine.specs.declared.connection.Connection.{Connection}

-- the broker, what is in force, the last connection number that was given, and the connections that are not gone
pub record Parts : Type 0 where
  pub broker : broker.WithTurn
  pub guarantees : List Guarantee
  pub users : List User
  pub given : ℕ
  -- in ascending order of their numbers
  pub connections : List Connection

-- the parts of an engine with this broker, these guarantees and users, this last number given and these connections
abbrev pub parts_of : broker.WithTurn → List Guarantee → List User → ℕ → List Connection → Parts
parts_of b guarantees users given connections = record {
  broker = b;
  guarantees = guarantees;
  users = users;
  given = given;
  connections = connections;
}

-- the connection with number `c`
abbrev pub connection_in : List Connection → ℕ → Option Connection
connection_in [] c = None
connection_in (l ∷ ls) c = if l.number == c then Some l else connection_in ls c

-- the session of a connection; one that was never opened or is gone has the session of one that is over
abbrev pub session_of : Option Connection → Session
session_of None = no_session
session_of (Some l) = l.session

-- a connection's bytes, in and out; only its output if it is over (`true`), since nothing further is read then
abbrev pub wire_in : Bool → Connection → Wire
wire_in true l = record new_wire { output = l.output.bytes }
wire_in false l = record { kept = kept_of l.kept; stream = stream_of l.stream; output = l.output.bytes }

-- a connection's bytes, in and out; one that was never opened or is gone has none
abbrev pub wire_of : Option Connection → Wire
wire_of None = new_wire
wire_of (Some l) = wire_in (is_ended l.session.phase) l

-- what is in force: the topology that the broker runs, the guarantees, and the users who may log in
abbrev pub config_of : Parts → Config
config_of p = record { topology = topology_kept p.broker; guarantees = p.guarantees; users = p.users }

-- the broker's state, and the session of each number
abbrev pub state_of : Parts → State
state_of p = record { broker = broker_of p.broker; session = λ c. session_of (connection_in p.connections c) }

-- the world that these parts represent: what the model's arrivals change
abbrev pub world_of : Parts → World
world_of p = record { config = config_of p; state = state_of p; given = p.given; wire = λ c. wire_of (connection_in p.connections c) }

-- ---- what every engine keeps

-- the numbers ascend, and the first is greater than `low`
abbrev pub AreRising : ℕ → List Connection → Type 0
AreRising low [] = Unit {0}
AreRising low (l ∷ ls) = (low < l.number) × AreRising l.number ls

-- the connection is over, and its output is empty
abbrev pub is_connection_gone : Connection → Bool
is_connection_gone l = is_ended l.session.phase && not (nat_lt 0 (length l.output.bytes))

-- a connection whose number was given, and that is not gone
pub record IsConnection (given : ℕ) (l : Connection) : Type 0 where
  pub within : l.number ≤ given
  pub here : is_connection_gone l ≡ false
  pub kept : IsKeptEvent l.number l.kept l.stream.fault

-- `l` is connection `number`, just opened, with this session and this stream, nothing pending and no output
pub record IsNew (l : Connection) (number : ℕ) (session : Session) (stream : Stream) : Type 0 where
  pub number_is : l.number ≡ number
  pub session_is : l.session ≡ session
  pub kept : l.kept ≡ None
  pub stream_is : stream_of l.stream ≡ stream
  pub output : l.output.bytes ≡ []

-- `ls` are connections that are not gone, in ascending order of their numbers, all of which are at most `given`
pub record AreConnections (given : ℕ) (ls : List Connection) : Type 0 where
  pub rising : AreRising 0 ls
  pub each : AllByRecursion (IsConnection given) ls

-- The guarantees hold of the topology, the connections are in ascending order of their numbers, and the broker agrees with them.
pub record IsEngine (p : Parts) : Type 0 where
  pub hold : AllHold (topology_kept p.broker) p.guarantees
  pub formed : IsWellFormed (topology_kept p.broker)
  pub connections : AreConnections p.given p.connections
  pub consistent : IsConsistent (world_of p)
  -- the consumers of each channel have distinct tags, ascending numbers, and queues of the topology
  pub named : AreNamed (topology_kept p.broker) (broker_of p.broker)
