-- What a server does (own): its calls of the wire with their answers, the arrivals at the machine that these become, its pumps, and reloads.
use Rattle.std.specs.Prelude.{◌≡◌, ◌≢◌, ◌≤◌, ◌+◌, ℕ, zero, suc, List, [], ◌∷◌, ◌++◌, length, take, flat_map}
use Rattle.std.specs.Prelude.{Bool, true, false, Option, Some, None, slice_index_or, slice_set, if◌then◌else◌, MatchBool, nat_lt, sum_by}
use Rattle.std.specs.List.{list_any}
use Rattle.model.specs.State.{Config}
use Rattle.model.specs.History.{Occurrence}
use Rattle.model.specs.Headline.{IsSound}
use Rattle.model.specs.Consuming.{CanDeliver}
use Rattle.model.specs.Arrivals.{World, Answers, NoneCanDeliver, is_gone, can_open}
use Rattle.model.specs.declared.events.Arrival.TheVariants as arrival
use Rattle.serving.specs.Wire.{Call, Accepted, Not_accepted, Accept_failed, Got, Nothing_got, Read_ended, Read_failed}
use Rattle.serving.specs.Wire.{Took, Nothing_taken, Write_failed, Closed, Welcomed, Farewell, Rested, Ask, asks, Traffic, AddsCalls, IsFresh}
use Rattle.serving.specs.Coming.{Attempt, whole, short, Brings, Attempts}
use Rattle.slab.specs.Slab.{Slab}
use Rattle.runs.specs.Wants.{Lacks, To_open}
use Rattle.runs.specs.Opened.{runs}
use Rattle.serving.specs.declared.peers.Peer.{Peer}

-- the machine's world, the peer in each slot, and what the wire knows
pub record Served : Type 0 where
  pub world : World
  pub peers : List (Option Peer)
  pub traffic : Traffic

-- a world, peers and a wire's knowledge as one value
abbrev pub served : World → List (Option Peer) → Traffic → Served
served w ps t = record { world = w; peers = ps; traffic = t }

-- the state within a round, of a machine, its peers and its wire; `world` and `past` say what contracts see of the machine and of the wire
abbrev pub state : {M W : Type 0} → (M → World) → (W → Traffic) → M → Slab Peer → W → Served
state world past machine peers wire = served (world machine) peers.slots (past wire)

-- the greatest length that a read is offered: the whole buffer, 65,536 bytes
abbrev pub read_room : ℕ
read_room = 65536

-- the length that a read is offered: from 16 to 65,536 bytes
abbrev pub IsOffer : ℕ → Type 0
IsOffer room = (16 ≤ room) × (room ≤ read_room)

-- what a deed does to a connection: it starts running, it stops running, or neither
pub data Passage : Type 0 where
  Enters : Passage
  Leaves : Passage
  Stays : Passage

-- what a deed does to a connection, by whether it was running before and whether it is after
abbrev pub passage_of : Bool → Bool → Passage
passage_of false true = Enters
passage_of true false = Leaves
passage_of false false = Stays
passage_of true true = Stays

-- One thing that a server does: its reaction to one answer of its wire, a pump, a rest, or a reload between two calls of `serve`.
pub data Deed : Type 0 where
  -- a socket was accepted, and a connection was opened for it in this slot
  Met : (slot : ℕ) → (peer : Peer) → Deed
  -- a socket was accepted, but no connection was opened: no further one can be, or an allocation failed
  Turned_away : (socket : ℕ) → (opening : Attempt) → Deed
  Met_no_one : (is_failure : Bool) → Deed
  -- a read of length `room` got these bytes, which started or stopped the connection as `passage` says
  Heard : (slot : ℕ) → (peer : Peer) → (room : ℕ) → (bytes : List ℕ) → (passage : Passage) → Deed
  -- a read got these bytes, and an allocation for them failed
  Heard_partly : (slot : ℕ) → (peer : Peer) → (room : ℕ) → (bytes : List ℕ) → Deed
  Heard_nothing : (slot : ℕ) → (peer : Peer) → (room : ℕ) → Deed
  -- the input of the socket ended, or its read failed
  Heard_end : (slot : ℕ) → (peer : Peer) → (room : ℕ) → (is_failure : Bool) → Deed
  -- the socket took bytes of the output; then the turns that had waited for it were taken, which started or stopped the connection as `passage` says
  Gave : (slot : ℕ) → (peer : Peer) → (offered taken : List ℕ) → (passage : Passage) → Deed
  -- an allocation failed in a turn that had waited for the output to be taken
  Gave_partly : (slot : ℕ) → (peer : Peer) → (offered taken : List ℕ) → Deed
  Gave_nothing : (slot : ℕ) → (peer : Peer) → (offered : List ℕ) → Deed
  -- the write failed
  Gave_up : (slot : ℕ) → (peer : Peer) → (offered : List ℕ) → Deed
  -- a pump that delivered a message
  Pumped : Deed
  -- a pump for which no delivery could be made
  Pumped_nothing : Deed
  -- a pump that failed to allocate
  Pump_refused : Deed
  -- the connection is over with an empty output, so its socket is closed
  Closed_gone : (slot : ℕ) → (peer : Peer) → Deed
  Paused : Deed
  -- a reload offered this configuration: it was put in force, or refused because of an obstacle
  Reload_decided : (offered : Config) → Deed
  -- the reload failed to allocate
  Reload_undecided : (offered : Config) → Deed

-- `welcome` is called for a socket whose connection starts running, and `farewell` for one whose connection stops running
abbrev pub greeting : ℕ → Passage → List Call
greeting s Enters = Welcomed s ∷ []
greeting s Leaves = Farewell s ∷ []
greeting s Stays = []

-- the calls of the wire in a deed, with their answers
abbrev pub calls : Deed → List Call
calls (Met i p) = Accepted p.socket ∷ []
calls (Turned_away s o) = Accepted s ∷ Closed s ∷ []
calls (Met_no_one failed) = (if failed then Accept_failed else Not_accepted) ∷ []
calls (Heard i p room bytes passage) = Got p.socket room bytes ∷ greeting p.socket passage
calls (Heard_partly i p room bytes) = Got p.socket room bytes ∷ Closed p.socket ∷ []
calls (Heard_nothing i p room) = Nothing_got p.socket room ∷ []
calls (Heard_end i p room failed) = (if failed then Read_failed p.socket room else Read_ended p.socket room) ∷ Closed p.socket ∷ []
calls (Gave i p offered taken passage) = Took p.socket offered taken ∷ greeting p.socket passage
calls (Gave_partly i p offered taken) = Took p.socket offered taken ∷ Closed p.socket ∷ []
calls (Gave_nothing i p offered) = Nothing_taken p.socket offered ∷ []
calls (Gave_up i p offered) = Write_failed p.socket offered ∷ Closed p.socket ∷ []
calls Pumped = []
calls Pumped_nothing = []
calls Pump_refused = []
calls (Closed_gone i p) = Closed p.socket ∷ []
calls Paused = Rested ∷ []
calls (Reload_decided g) = []
calls (Reload_undecided g) = []

-- the arrivals at the machine in a deed
abbrev pub attempts : Deed → List Attempt
attempts (Met i p) = whole arrival.Open ∷ []
attempts (Turned_away s o) = o ∷ []
attempts (Met_no_one failed) = []
attempts (Heard i p room bytes passage) = whole (arrival.In p.connection bytes) ∷ []
attempts (Heard_partly i p room bytes) = short (arrival.In p.connection bytes) ∷ whole (arrival.Lose p.connection) ∷ []
attempts (Heard_nothing i p room) = []
attempts (Heard_end i p room failed) = whole (arrival.Lose p.connection) ∷ []
attempts (Gave i p offered taken passage) = whole (arrival.Sent p.connection (length taken)) ∷ []
attempts (Gave_partly i p offered taken) = short (arrival.Sent p.connection (length taken)) ∷ whole (arrival.Lose p.connection) ∷ []
attempts (Gave_nothing i p offered) = []
attempts (Gave_up i p offered) = whole (arrival.Lose p.connection) ∷ []
attempts Pumped = whole arrival.Pump ∷ []
attempts Pumped_nothing = whole arrival.Pump ∷ []
attempts Pump_refused = short arrival.Pump ∷ []
attempts (Closed_gone i p) = []
attempts Paused = []
attempts (Reload_decided g) = whole (arrival.Reload g) ∷ []
attempts (Reload_undecided g) = short (arrival.Reload g) ∷ []

-- whether a deed did something: a server rests only if none of a round did
abbrev pub is_done : Deed → Bool
is_done (Met_no_one failed) = false
is_done (Heard_nothing i p room) = false
is_done (Gave_nothing i p offered) = false
is_done Pumped_nothing = false
is_done Pump_refused = false
is_done Paused = false
is_done (Reload_undecided g) = false
is_done deed = true

-- whether a deed is a pump, which asks nothing of the wire
abbrev pub is_pump : Deed → Bool
is_pump Pumped = true
is_pump Pumped_nothing = true
is_pump Pump_refused = true
is_pump deed = false

-- whether a deed is a pump, a rest or a reload, none of which is an answer of the wire
abbrev pub is_unasked : Deed → Bool
is_unasked Pumped = true
is_unasked Pumped_nothing = true
is_unasked Pump_refused = true
is_unasked Paused = true
is_unasked (Reload_decided g) = true
is_unasked (Reload_undecided g) = true
is_unasked deed = false

-- ---- the slots

-- slot i holds this peer
abbrev pub At : List (Option Peer) → ℕ → Peer → Type 0
At ps i p = slice_index_or ps i None ≡ Some p

-- Slot i was free and holds this peer now; every other slot is unchanged.
pub record Filled (old : List (Option Peer)) (i : ℕ) (p : Peer) (new : List (Option Peer)) : Type 0 where
  pub free : slice_index_or old i None ≡ None
  pub here : At new i p
  pub others : (j : ℕ) → j ≢ i → slice_index_or new j None ≡ slice_index_or old j None

-- slot i held this peer and is free now
abbrev pub Freed : List (Option Peer) → ℕ → Peer → List (Option Peer) → Type 0
Freed old i p new = At old i p × (new ≡ slice_set old i None)

-- slot i holds this peer, and nothing changes
abbrev pub KeepsPeer : List (Option Peer) → ℕ → Peer → List (Option Peer) → Type 0
KeepsPeer old i p new = At old i p × (new ≡ old)

-- these bytes are all of c's output
abbrev pub IsOutput : World → ℕ → List ℕ → Type 0
IsOutput w c bytes = bytes ≡ (w.wire c).output

-- these bytes are a prefix of c's output
abbrev pub IsFront : World → ℕ → List ℕ → Type 0
IsFront w c bytes = (n : ℕ) × (n ≤ length (w.wire c).output) × (bytes ≡ take n (w.wire c).output)

-- why a socket is turned away: no further connection can be opened (`true`), or an allocation for one failed
abbrev pub MayTurnAway : Lacks → World → Bool → Type 0
MayTurnAway L w true = can_open w ≡ false
MayTurnAway L w false = L w To_open

-- what each deed needs, and what it does to the slots: a read is offered 16 to 65,536 bytes; a write is offered all output of its connection, and
-- takes a prefix of it; a pump delivers only if a delivery can be made; and a reload offers a sound configuration
abbrev pub Table : Lacks → Served → Deed → List (Option Peer) → Type 0
Table L v (Met i p) new = (can_open v.world ≡ true) × (p.connection ≡ v.world.given + 1) × IsFresh p.socket v.traffic × Filled v.peers i p new
Table L v (Turned_away s o) new = (o.arrival ≡ arrival.Open) × MayTurnAway L v.world o.is_whole × IsFresh s v.traffic × (new ≡ v.peers)
Table L v (Met_no_one failed) new = new ≡ v.peers
Table L v (Heard i p room bytes passage) new = IsOffer room × KeepsPeer v.peers i p new
Table L v (Heard_partly i p room bytes) new = IsOffer room × Freed v.peers i p new
Table L v (Heard_nothing i p room) new = IsOffer room × KeepsPeer v.peers i p new
Table L v (Heard_end i p room failed) new = IsOffer room × Freed v.peers i p new
Table L v (Gave i p offered taken passage) new = IsOutput v.world p.connection offered × IsFront v.world p.connection taken × KeepsPeer v.peers i p new
Table L v (Gave_partly i p offered taken) new = IsOutput v.world p.connection offered × IsFront v.world p.connection taken × Freed v.peers i p new
Table L v (Gave_nothing i p offered) new = IsOutput v.world p.connection offered × KeepsPeer v.peers i p new
Table L v (Gave_up i p offered) new = IsOutput v.world p.connection offered × Freed v.peers i p new
Table L v Pumped new = ((c : ℕ) × CanDeliver v.world.state.broker c) × (new ≡ v.peers)
Table L v Pumped_nothing new = NoneCanDeliver v.world × (new ≡ v.peers)
Table L v Pump_refused new = new ≡ v.peers
Table L v (Closed_gone i p) new = (is_gone v.world p.connection ≡ true) × Freed v.peers i p new
Table L v Paused new = new ≡ v.peers
Table L v (Reload_decided g) new = IsSound g × (new ≡ v.peers)
Table L v (Reload_undecided g) new = IsSound g × (new ≡ v.peers)

-- what becomes of the accepted socket `s`: it gets a connection and a slot (`true`), or nothing changes
abbrev pub TakesIn : Lacks → World → List (Option Peer) → ℕ → Bool → World → List (Option Peer) → Type 0
TakesIn L old ps s true new now = (can_open old ≡ true) × ((os : List Occurrence) × Answers old arrival.Open os new)
    × ((i : ℕ) × Filled ps i (record { connection = old.given + 1; socket = s }) now)
TakesIn L old ps s false new now = ((o : Attempt) × (o.arrival ≡ arrival.Open) × MayTurnAway L old o.is_whole × Brings L old o [] new) × (now ≡ ps)

-- whether connection c starts or stops running from `old` to `new`
abbrev pub passage_between : World → World → ℕ → Passage
passage_between old new c = passage_of (runs old c) (runs new c)

-- `welcome` is called for a socket exactly if its connection starts running by the deed, and `farewell` exactly if it stops running by the deed
abbrev pub Greets : World → Deed → World → Type 0
Greets old (Heard i p room bytes passage) new = passage ≡ passage_between old new p.connection
Greets old (Gave i p offered taken passage) new = passage ≡ passage_between old new p.connection
Greets old d new = Unit {0}

-- One deed, with the occurrences that it brings.
pub record DoesDeed (L : Lacks) (old : Served) (d : Deed) (os : List Occurrence) (new : Served) : Type 0 where
  pub table : Table L old d new.peers
  pub brings : Attempts L old.world (attempts d) os new.world
  pub greets : Greets old.world d new.world
  pub traffic : AddsCalls old.traffic (calls d) new.traffic

-- the deeds are done one after another
abbrev pub Story : Lacks → Served → List Deed → List Occurrence → Served → Type 0
Story L old [] os new = (os ≡ []) × (new ≡ old)
Story L old (d ∷ ds) os new = (mid : Served) × (first : List Occurrence) × (rest : List Occurrence)
    × (os ≡ first ++ rest) × DoesDeed L old d first mid × Story L mid ds rest new

-- A part of a round without pumps, rests and reloads. Its accepts, reads and writes are exactly `asked`, and `acted` is whether it did something.
pub record Serves (L : Lacks) (old : Served) (asked : List Ask) (acted : Bool) (new : Served) : Type 0 where
  pub deeds : List Deed
  pub occurrences : List Occurrence
  pub story : Story L old deeds occurrences new
  pub asks : asks (flat_map calls deeds) ≡ asked
  pub all_asked : list_any is_unasked deeds ≡ false
  pub done : list_any is_done deeds ≡ acted

-- One pump, and whether it delivered a message.
pub record PumpsOnce (L : Lacks) (old : Served) (acted : Bool) (new : Served) : Type 0 where
  pub deed : Deed
  pub occurrences : List Occurrence
  pub does : DoesDeed L old deed occurrences new
  pub pump : is_pump deed ≡ true
  pub done : is_done deed ≡ acted

-- how many bytes of output connection `c` has
abbrev pub output_length : World → ℕ → ℕ
output_length w c = length (w.wire c).output

-- the length of the output of a slot's connection, if it is longer in `new` than in `old`; otherwise 0
abbrev pub grown : World → World → Option Peer → ℕ
grown old new None = 0
grown old new (Some p) = if nat_lt (output_length old p.connection) (output_length new p.connection) then output_length new p.connection else 0

-- how many bytes wait in `new` for the connections in these slots whose outputs are longer than in `old`; after pumps, those that got deliveries
abbrev pub grown_bytes : World → World → List (Option Peer) → ℕ
grown_bytes old new ps = sum_by (grown old new) ps

-- at most `n` pumps, and fewer only if the last one delivered nothing (no delivery could be made, or an allocation failed), or if `waiting` is at least
-- `enough`
abbrev pub ArePumps : ℕ → ℕ → ℕ → List Deed → Type 0
ArePumps enough waiting zero deeds = deeds ≡ []
ArePumps enough waiting (suc n) [] = enough ≤ waiting
ArePumps enough waiting (suc n) (d ∷ ds) = (is_pump d ≡ true) × MatchBool (is_done d) (ArePumps enough waiting n ds) (ds ≡ [])

-- At most `most` pumps, and fewer only if the last one delivered nothing, or if `enough` bytes wait for connections that they delivered to. `acted` is
-- whether they delivered anything.
pub record PumpsUp (L : Lacks) (most enough : ℕ) (old : Served) (acted : Bool) (new : Served) : Type 0 where
  pub deeds : List Deed
  pub occurrences : List Occurrence
  pub story : Story L old deeds occurrences new
  pub pumps : ArePumps enough (grown_bytes old.world new.world old.peers) most deeds
  pub done : list_any is_done deeds ≡ acted

-- one pump of the machine; the peers and what the wire knows, whatever they are, stay the same
abbrev pub MachinePumpsOnce : Lacks → World → Bool → World → Type 0
MachinePumpsOnce L old acted new = (ps : List (Option Peer)) (traffic : Traffic) → PumpsOnce L (served old ps traffic) acted (served new ps traffic)

-- `PumpsUp` by pumps of the machine, with these peers; what the wire knows, whatever it is, stays the same
abbrev pub MachinePumpsUp : Lacks → ℕ → ℕ → List (Option Peer) → World → Bool → World → Type 0
MachinePumpsUp L most enough ps old acted new = (traffic : Traffic) → PumpsUp L most enough (served old ps traffic) acted (served new ps traffic)
