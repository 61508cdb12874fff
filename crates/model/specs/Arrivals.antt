-- All that arrives, and all that is done for it (own): pieces of bytes, openings,
-- output taken, deliveries, losses, and reloads. Start with `Answers` and `Plays`.
use Rattle.std.specs.Prelude.{
  ◌≡◌,
  ◌≢◌,
  ◌+◌,
  ◌<◌,
  ◌≤◌,
  ℕ,
  suc,
  zero,
  List,
  [],
  ◌∷◌,
  ◌++◌,
  map,
  length,
  drop,
  Bool,
  true,
  false,
  nat_lt,
  nat_le,
  ◌&&◌,
  not,
  Option,
  Some,
  None,
  ◌⊎◌,
  MatchBool,
  if◌then◌else◌,
  slice_get,
}
use Rattle.std.specs.List.{AllByRecursion}
use Rattle.model.specs.Broker.{with_one}
use Rattle.model.specs.State.{Config, State, Step}
use Rattle.model.specs.Consuming.{CanDeliver}
use Rattle.model.specs.Grammar.{IsMethod}
use Rattle.model.specs.Phases.{Session, is_running}
use Rattle.model.specs.Run.{Happening, put_out, empty_state}
use Rattle.model.specs.History.{Occurrence, Of_event, Of_reload, Reload, IsDecided, events_of, notes_over}
use Rattle.model.specs.Spelling.{spelling, receiver, IsSpelled}
use Rattle.model.specs.Commands.{Stream, Yields, Ends, GoesOn, HasWithin, opened_stream, running_stream, heard, with_max, keeping}
use Rattle.model.specs.declared.events.Phase.{Phase}
use Rattle.model.specs.declared.events.Phase.TheVariants as phase
use Rattle.model.specs.declared.events.Command.{Command}
use Rattle.model.specs.declared.events.Command.TheVariants.{Head, Plain, Full, TooLarge}
use Rattle.model.specs.declared.events.Event.{Event}
use Rattle.model.specs.declared.events.Event.TheVariants as event
use Rattle.model.specs.declared.events.Arrival.{Arrival}
use Rattle.model.specs.declared.events.Arrival.TheVariants as arrival
use Rattle.model.specs.declared.methods.Method.TheVariants.{BasicPublish}
use Rattle.model.specs.declared.notes.Note.{Note}

-- One connection, as the bytes that come from it and go to it.
pub record Wire : Type 0 where
  -- A command that was read and is still to be performed.
  pub kept : Option Command
  -- The rest of its bytes, after that command.
  pub stream : Stream
  -- The bytes that were put out and are not taken yet.
  pub output : List ℕ

-- The whole state of a run: the configuration in force, the broker's state and the phases, and each connection's bytes.
pub record World : Type 0 where
  pub config : Config
  pub state : State
  -- The number of connections opened so far, which is also the number given last.
  pub given : ℕ
  pub wire : ℕ → Wire

-- An empty wire: nothing was read and nothing put out. A connection that is not opened yet has this wire, and so has a lost one.
abbrev pub new_wire : Wire
new_wire = record { kept = None; stream = running_stream; output = [] }

-- The world in which a run begins: `f` is in force, and no connection was opened.
abbrev pub new_world : Config → World
new_world f = record { config = f; state = empty_state; given = 0; wire = λ c. new_wire }

-- ---- whether a connection is over, paused or gone

-- Whether the phase is the last, in which nothing more is read.
abbrev pub is_ended : Phase → Bool
is_ended phase.Over = true
is_ended p = false

-- Whether connection `c` is over, is lost, or was never opened.
abbrev pub is_over : World → ℕ → Bool
is_over w c = is_ended (w.state.session c).phase

-- Whether the output has 1,048,576 bytes or more, which pauses its connection.
abbrev pub is_past_bound : List ℕ → Bool
is_past_bound output = nat_le 1048576 (length output)

-- Whether connection `c` is paused: nothing is performed for it until enough of its output is taken.
abbrev pub is_paused : World → ℕ → Bool
is_paused w c = is_past_bound (w.wire c).output

-- Whether what connection `c` asks for is performed: it is neither over nor paused.
abbrev pub is_awake : World → ℕ → Bool
is_awake w c = not (is_over w c) && not (is_paused w c)

-- Whether connection `c` has output that is not taken yet.
abbrev pub has_output : World → ℕ → Bool
has_output w c = nat_lt 0 (length (w.wire c).output)

-- Whether connection `c` is over, with no output left; a number that was never given is gone, too.
abbrev pub is_gone : World → ℕ → Bool
is_gone w c = is_over w c && not (has_output w c)

-- How many of the connections 1 to `n` are not gone.
abbrev pub count_open : World → ℕ → ℕ
count_open w zero = 0
count_open w (suc n) = if is_gone w (suc n) then count_open w n else count_open w n + 1

-- ---- what is read

-- The event of a command of connection `c`. A publish goes with its content, unless that is too large.
abbrev pub event_of : ℕ → Command → Event
event_of c (Head bytes) = event.First c bytes
event_of c (Plain h m) = event.Command c h m None
event_of c (Full h p content) = event.Command c h (BasicPublish p) (Some content)
event_of c (TooLarge h) = event.TooLarge c h

-- The next event of connection `c` and the stream after it: the kept command if there is one, otherwise the stream's next command or its fault.
pub data Reads : ℕ → Option Command → Stream → Event → Stream → Type 0 where
  again : {c : ℕ} {m : Command} {s : Stream} → Reads c (Some m) s (event_of c m) s
  fresh : {c : ℕ} {m : Command} {s next : Stream} → Yields s m next → Reads c None s (event_of c m) next
  fault : {c code : ℕ} {s : Stream} → Ends s (Some code) → Reads c None s (event.Fault c code) s

-- Reading ahead changes nothing that is still to come: only frames that complete no command were read, or the next command was read and is kept.
pub data SameToCome : Option Command → Stream → Option Command → Stream → Type 0 where
  still : {m : Command} {s : Stream} → SameToCome (Some m) s (Some m) s
  waits : {s new : Stream} → GoesOn s new → SameToCome None s None new
  kept : {m : Command} {s next : Stream} → Yields s m next → SameToCome None s (Some m) next

-- If the event is a command, its method has a spelling, and its content is not too large.
abbrev pub IsSaid : Event → Type 0
IsSaid (event.Command c h m content) = IsMethod m × HasWithin content
IsSaid e = Unit {0}

-- ---- events

-- `h` records the event `e` as one step under the configuration `f`, from the state `old` to the state `new`.
pub record Happens (f : Config) (old : State) (e : Event) (h : Happening) (new : State) : Type 0 where
  pub under : h.config ≡ f
  pub event : h.event ≡ e
  pub before : h.before ≡ old
  pub after : h.after ≡ new
  pub stepped : Step f old e h.sends h.notes new

-- An output that reaches the bound pauses its connection, and one that falls below it resumes it; otherwise nothing happens.
abbrev pub Pauses : Config → State → ℕ → Bool → Bool → List Happening → State → Type 0
Pauses f mid c false true hs new = (h : Happening) × (hs ≡ h ∷ []) × Happens f mid (event.Pause c) h new
Pauses f mid c true false hs new = (h : Happening) × (hs ≡ h ∷ []) × Happens f mid (event.Resume c) h new
Pauses f mid c was is hs new = (hs ≡ []) × (new ≡ mid)

-- The event `e`: all of its sends go to connection `c` and are put out. If that pauses or resumes the connection, a Pause or Resume event follows.
pub record Puts (old : World) (e : Event) (c : ℕ) (hs : List Happening) (new : World) : Type 0 where
  pub h : Happening
  pub rest : List Happening
  pub all : hs ≡ h ∷ rest
  pub mid : State
  pub happens : Happens old.config old.state e h mid
  pub own : AllByRecursion (λ s. receiver s ≡ c) h.sends
  pub limit : h.frame_max ≡ (old.state.session c).frame_max
  pub bounded : h.frame_max ≤ 131072
  pub spelled : AllByRecursion (IsSpelled h.frame_max) h.sends
  pub output : (new.wire c).output ≡ (old.wire c).output ++ spelling h.frame_max h.sends
  pub pauses : Pauses old.config mid c (is_paused old c) (is_paused new c) rest new.state
  pub config : new.config ≡ old.config
  pub others : (d : ℕ) → d ≢ c → new.wire d ≡ old.wire d
  pub rests : (d : ℕ) → d ≢ c → new.state.session d ≡ old.state.session d

-- The stream with the limits of the session `s`: frames of at most its `frame_max` bytes, and contents that are kept only if the session is running.
abbrev pub under_session : Session → Stream → Stream
under_session s next = keeping (is_running s.phase) (with_max s.frame_max next)

-- The wire after a turn: no command is kept, and the stream has the limits of the session `s`. If the session is over, nothing more is read.
abbrev pub wire_after : Session → Stream → List ℕ → Wire
wire_after s next output = if is_ended s.phase then record new_wire { output = output }
    else record { kept = None; stream = under_session s next; output = output }

-- One command of connection `c`, or the fault of its stream, is performed.
pub record Turns (old : World) (c : ℕ) (hs : List Happening) (new : World) : Type 0 where
  pub awake : is_awake old c ≡ true
  pub event : Event
  pub next : Stream
  pub read : Reads c (old.wire c).kept (old.wire c).stream event next
  pub said : IsSaid event
  pub puts : Puts old event c hs new
  pub given : new.given ≡ old.given
  pub wire : new.wire c ≡ wire_after (new.state.session c) next (new.wire c).output

-- Nothing is performed, and what is still to come from connection `c` is the same.
pub record Waits (old : World) (c : ℕ) (new : World) : Type 0 where
  pub config : new.config ≡ old.config
  pub state : new.state ≡ old.state
  pub given : new.given ≡ old.given
  pub others : (d : ℕ) → d ≢ c → new.wire d ≡ old.wire d
  pub output : (new.wire c).output ≡ (old.wire c).output
  pub coming : SameToCome (old.wire c).kept (old.wire c).stream (new.wire c).kept (new.wire c).stream

-- Nothing is different between the two worlds.
pub record Same (old new : World) : Type 0 where
  pub config : new.config ≡ old.config
  pub state : new.state ≡ old.state
  pub given : new.given ≡ old.given
  pub wires : (d : ℕ) → new.wire d ≡ old.wire d

-- Connection `c` has no whole command and no fault left.
pub record IsIdle (w : World) (c : ℕ) : Type 0 where
  pub none_kept : (w.wire c).kept ≡ None
  pub ends : Ends (w.wire c).stream None

-- Nothing is left to perform for connection `c`: it is over, paused or idle.
abbrev pub Rests : World → ℕ → Type 0
Rests w c = (is_awake w c ≡ false) ⊎ IsIdle w c

-- Turns of connection `c`, none or more, one after another.
pub data Works (c : ℕ) : World → List Happening → World → Type 0 where
  none_more : {w : World} → Works c w [] w
  one_more : {old mid new : World} {first rest hs : List Happening} → Turns old c first mid → Works c mid rest new → hs ≡ first ++ rest → Works c old hs new

-- The complete commands of connection `c`, and a fault after them, are performed, until the connection is paused or over.
pub record WorksOff (old : World) (c : ℕ) (hs : List Happening) (new : World) : Type 0 where
  pub mid : World
  pub works : Works c old hs mid
  pub rests : Rests mid c
  pub waits : Waits mid c new

-- ---- arrivals

-- The world with `bytes` appended to the unread bytes of connection `c`.
abbrev pub with_heard : World → ℕ → List ℕ → World
with_heard w c bytes = record w { wire = with_one w.wire c (record (w.wire c) { stream = heard (w.wire c).stream bytes }) }

-- The first `n` bytes of the output of connection `c` are taken, or all if there are fewer. This may resume the connection.
pub record TakesOutput (old : World) (c n : ℕ) (hs : List Happening) (new : World) : Type 0 where
  pub config : new.config ≡ old.config
  pub given : new.given ≡ old.given
  pub wires : (d : ℕ) → new.wire d ≡ with_one old.wire c (record (old.wire c) { output = drop n (old.wire c).output }) d
  pub pauses : Pauses old.config old.state c (is_paused old c) (is_paused new c) hs new.state

-- Whether another connection can be opened: fewer than 1,024 are `count_open`, and a number that was never given is left.
abbrev pub can_open : World → Bool
can_open w = nat_lt (count_open w w.given) 1024 && nat_lt w.given 18446744073709551615

-- The event `e` opens a connection under the next number, with the stream `s`; nothing is sent.
pub record Opens (old : World) (e : Event) (s : Stream) (hs : List Happening) (new : World) : Type 0 where
  pub h : Happening
  pub all : hs ≡ h ∷ []
  pub happens : Happens old.config old.state e h new.state
  pub silent : h.sends ≡ []
  pub config : new.config ≡ old.config
  pub given : new.given ≡ old.given + 1
  pub wires : (d : ℕ) → new.wire d ≡ with_one old.wire (old.given + 1) (record new_wire { stream = s }) d

-- Connection `c` is lost: what it held is requeued, and its unread bytes and its output are gone.
pub record Loses (old : World) (c : ℕ) (hs : List Happening) (new : World) : Type 0 where
  pub h : Happening
  pub all : hs ≡ h ∷ []
  pub happens : Happens old.config old.state (event.Lose c) h new.state
  pub silent : h.sends ≡ []
  pub config : new.config ≡ old.config
  pub given : new.given ≡ old.given
  pub wires : (d : ℕ) → new.wire d ≡ with_one old.wire c new_wire d

-- Up to `n` bytes of the output of connection `c` are taken, and then its waiting commands are performed.
pub record TakesAndWorks (old : World) (c n : ℕ) (hs : List Happening) (new : World) : Type 0 where
  pub first : List Happening
  pub rest : List Happening
  pub all : hs ≡ first ++ rest
  pub mid : World
  pub takes : TakesOutput old c n first mid
  pub works : WorksOff mid c rest new

-- There is no event, and the world is as before.
abbrev pub NothingHappens : World → List Happening → World → Type 0
NothingHappens old hs new = (hs ≡ []) × Same old new

-- A message is delivered to a consumer of connection `c` and put out, which may pause the connection.
pub record Delivers (old : World) (c : ℕ) (hs : List Happening) (new : World) : Type 0 where
  pub puts : Puts old (event.Deliver c) c hs new
  pub given : new.given ≡ old.given
  pub wire : new.wire c ≡ record (old.wire c) { output = (new.wire c).output }

-- No delivery can be made, to any connection.
abbrev pub NoneCanDeliver : World → Type 0
NoneCanDeliver w = (c : ℕ) → CanDeliver w.state.broker c → ⊥

-- One delivery is made if any can be, and otherwise nothing happens.
pub data Pumps : World → List Happening → World → Type 0 where
  delivers : {old new : World} {c : ℕ} {hs : List Happening} → Delivers old c hs new → Pumps old hs new
  idles : {old new : World} {hs : List Happening} → NoneCanDeliver old → NothingHappens old hs new → Pumps old hs new

-- The configuration `offered` is put in force, or refused for the first obstacle. Connections keep their unread bytes and their output.
pub record Reloads (old : World) (offered : Config) (os : List Occurrence) (new : World) : Type 0 where
  pub r : Reload
  pub all : os ≡ Of_reload r ∷ []
  pub under : r.config ≡ old.config
  pub offers : r.offered ≡ offered
  pub before : r.before ≡ old.state
  pub after : r.after ≡ new.state
  pub in_force : r.in_force ≡ new.config
  pub decided : IsDecided r
  pub given : new.given ≡ old.given
  pub wires : (c : ℕ) → new.wire c ≡ old.wire c

-- The occurrences are all events, none of them a reload, and `Holds` is true of these events.
abbrev pub ByEvents : List Occurrence → (List Happening → Type 0) → Type 0
ByEvents os Holds = (hs : List Happening) × (os ≡ map Of_event hs) × Holds hs

-- What one arrival does. Bytes for a connection that is over do nothing. Neither does taking output of a connection that is gone, or
-- losing it, or an opening if no connection can be opened. A reload offers a configuration.
abbrev pub Answers : World → Arrival Config → List Occurrence → World → Type 0
Answers old arrival.Open os new =
    ByEvents os (λ hs. MatchBool (can_open old) (Opens old (event.Open (old.given + 1)) opened_stream hs new) (NothingHappens old hs new))
Answers old (arrival.Ready k) os new = ByEvents os
    (λ hs. MatchBool (can_open old) (Opens old (event.Running (old.given + 1) 255 k) running_stream hs new) (NothingHappens old hs new))
Answers old (arrival.In c bytes) os new = ByEvents os
    (λ hs. MatchBool (is_over old c) (NothingHappens old hs new) (WorksOff (with_heard old c bytes) c hs new))
Answers old (arrival.Sent c n) os new = ByEvents os (λ hs. MatchBool (is_gone old c) (NothingHappens old hs new) (TakesAndWorks old c n hs new))
Answers old arrival.Pump os new = ByEvents os (λ hs. Pumps old hs new)
Answers old (arrival.Lose c) os new = ByEvents os (λ hs. MatchBool (is_gone old c) (NothingHappens old hs new) (Loses old c hs new))
Answers old (arrival.Reload offered) os new = Reloads old offered os new

-- What a list of arrivals does, one after another.
abbrev pub Plays : World → List (Arrival Config) → List Occurrence → World → Type 0
Plays old [] os new = (os ≡ []) × Same old new
Plays old (a ∷ as') os new = (mid : World) × (first : List Occurrence) × (rest : List Occurrence) × (os ≡ first ++ rest) × Answers old a first mid
    × Plays mid as' rest new

-- The arrival; if it is a reload, its setup `s` is replaced by `f s`.
abbrev pub with_setup : {S T : Type 0} → (S → T) → Arrival S → Arrival T
with_setup f arrival.Open = arrival.Open
with_setup f (arrival.Ready k) = arrival.Ready k
with_setup f (arrival.In c bytes) = arrival.In c bytes
with_setup f (arrival.Sent c n) = arrival.Sent c n
with_setup f arrival.Pump = arrival.Pump
with_setup f (arrival.Lose c) = arrival.Lose c
with_setup f (arrival.Reload s) = arrival.Reload (f s)

-- ---- what a run shows

-- What is seen of one connection: all bytes put out for it, and whether it is over or lost.
pub record Shown : Type 0 where
  pub output : List ℕ
  pub is_over : Bool

-- What is seen of a run: the connections in the order of their numbers, and the notes.
pub record Seen : Type 0 where
  pub connections : List Shown
  pub notes : List Note

-- What is seen of connection `c` after the events `hs`: all that was put out for it, taken or not, and whether it is over.
abbrev pub shown : List Happening → World → ℕ → Shown
shown hs w c = record { output = put_out c hs; is_over = is_over w c }

-- `seen` is what the occurrences `os` show: their notes, and for each connection the spelling of what was sent to it, and whether it is over in `w`.
pub record Shows (os : List Occurrence) (w : World) (seen : Seen) : Type 0 where
  pub noted : seen.notes ≡ notes_over os
  pub counted : length seen.connections ≡ w.given
  pub each : (i : ℕ) → i < w.given → slice_get seen.connections i ≡ Some (shown (events_of os) w (i + 1))
