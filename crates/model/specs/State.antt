-- What one event does, whichever phase its connection is in. Start with `Step`, at the end.
use Rattle.std.specs.Prelude.{◌≡◌, ℕ, List, [], Option, if◌then◌else◌}
use Rattle.model.specs.Topology.{Topology}
use Rattle.model.specs.Guarantee.{Guarantee}
use Rattle.model.specs.Broker.{Broker, with_one}
use Rattle.model.specs.Step.{Acts, Is, empty_publish, opened}
use Rattle.model.specs.Phases.{Session, running_session, no_session, is_running, Move, faulted, after_sends, to_phase}
use Rattle.model.specs.Opening.{IsAnswered, new_session, first_move}
use Rattle.model.specs.Words.{Text}
use Rattle.model.specs.declared.messages.User.{User}
use Rattle.model.specs.declared.contents.Content.{Content}
use Rattle.model.specs.declared.methods.Method.{Method}
use Rattle.model.specs.declared.events.Send.{Send}
use Rattle.model.specs.declared.notes.Note.{Note}
use Rattle.model.specs.declared.events.Phase.{Phase}
use Rattle.model.specs.declared.events.Phase.TheVariants as phase
use Rattle.model.specs.declared.events.Event.{Event}
use Rattle.model.specs.declared.events.Event.TheVariants as event

-- What is in force: a topology, the guarantees about it, and the users who may log in.
pub record Config : Type 0 where
  pub topology : Topology
  pub guarantees : List Guarantee
  pub users : List User

-- The broker's own state, and each connection's session: its phase and its limits.
pub record State : Type 0 where
  pub broker : Broker
  pub session : ℕ → Session

-- The broker after connection `c` moved to the session `next`. If that runs, the broker has
-- the connection, with no channel open and nothing held; otherwise the broker is unchanged.
abbrev pub after_move : Broker → ℕ → Session → Broker
after_move b c next = if is_running next.phase then opened b c next.channel_max 0 else b

-- An event of connection `c` that the phases alone decide: it sends what `move` sends, notes nothing, and leaves the connection in the session of `move`.
pub record Moves (old : State) (c : ℕ) (move : Move) (sends : List Send) (notes : List Note) (new : State) : Type 0 where
  pub sent : sends ≡ move.sends
  pub noted : notes ≡ []
  pub session : (d : ℕ) → new.session d ≡ with_one old.session c move.next d
  pub broker : Is (after_move old.broker c move.next) new.broker

-- An event that the broker performs, after which connection `c` is in the session `after`; all other sessions stay.
pub record Steps (f : Config) (old : State) (c : ℕ) (e : Event) (sends : List Send) (notes : List Note) (after : Session) (new : State) : Type 0 where
  pub acts : Acts f.topology old.broker e sends notes new.broker
  pub session : (d : ℕ) → new.session d ≡ with_one old.session c after d

-- An event that the broker performs, after which all sessions are as before.
pub record StepsAlone (f : Config) (old : State) (e : Event) (sends : List Send) (notes : List Note) (new : State) : Type 0 where
  pub acts : Acts f.topology old.broker e sends notes new.broker
  pub session : (d : ℕ) → new.session d ≡ old.session d

-- A method on channel `h` of connection `c` that a phase other than Running answers; `users` may log in.
pub record AnswersBy (users : List User) (old : State) (p : Phase) (c h : ℕ) (m : Method) (sends : List Send) (notes : List Note) (new : State) : Type 0 where
  pub move : Move
  pub answered : IsAnswered users c (old.session c) p h m move
  pub moves : Moves old c move sends notes new

-- A command: in Running the broker performs it, and the phase follows from what was sent; in any other phase, the phase answers it.
abbrev pub OfCommand : Config → State → Phase → ℕ → ℕ → Method → Option Content → List Send → List Note → State → Type 0
OfCommand f old phase.Running c h m content sends notes new =
    Steps f old c (event.Command c h m content) sends notes (to_phase (old.session c) (after_sends sends)) new
OfCommand f old p c h m content sends notes new = AnswersBy f.users old p c h m sends notes new

-- A publish whose content is too large: in Running the broker refuses it; in any other phase it is answered as a publish with empty texts is.
abbrev pub OfLarge : Config → State → Phase → ℕ → ℕ → List Send → List Note → State → Type 0
OfLarge f old phase.Running c h sends notes new = Steps f old c (event.TooLarge c h) sends notes (to_phase (old.session c) (after_sends sends)) new
OfLarge f old p c h sends notes new = AnswersBy f.users old p c h empty_publish sends notes new

-- A fault of the stream with a reply code: after it the connection is over.
abbrev pub OfFault : Config → State → Phase → ℕ → ℕ → List Send → List Note → State → Type 0
OfFault f old phase.Running c code sends notes new = Steps f old c (event.Fault c code) sends notes (to_phase (old.session c) phase.Over) new
OfFault f old p c code sends notes new = Moves old c (faulted c (old.session c) p code) sends notes new

-- An opening under a number that was never opened or is over: the first eight bytes are awaited.
pub record OfOpening (f : Config) (old : State) (c : ℕ) (sends : List Send) (notes : List Note) (new : State) : Type 0 where
  pub free : (old.session c).phase ≡ phase.Over
  pub steps : Steps f old c (event.Open c) sends notes new_session new

-- The first eight bytes: Running, which awaits none, ignores them; in any other phase, the phase answers them.
abbrev pub OfFirst : Config → State → Phase → ℕ → Text → List Send → List Note → State → Type 0
OfFirst f old phase.Running c bytes sends notes new = Steps f old c (event.First c bytes) sends notes (to_phase (old.session c) (after_sends sends)) new
OfFirst f old p c bytes sends notes new = Moves old c (first_move c (old.session c) p bytes) sends notes new

-- One event under the configuration `f`: from the state `old` it sends `sends`, notes `notes`, and leaves the state `new`.
abbrev pub Step : Config → State → Event → List Send → List Note → State → Type 0
Step f old (event.Open c) sends notes new = OfOpening f old c sends notes new
Step f old (event.First c bytes) sends notes new = OfFirst f old (old.session c).phase c bytes sends notes new
Step f old (event.Running c max k) sends notes new = Steps f old c (event.Running c max k) sends notes (record running_session { channel_max = max }) new
Step f old (event.Command c h m content) sends notes new = OfCommand f old (old.session c).phase c h m content sends notes new
Step f old (event.TooLarge c h) sends notes new = OfLarge f old (old.session c).phase c h sends notes new
Step f old (event.Fault c code) sends notes new = OfFault f old (old.session c).phase c code sends notes new
Step f old (event.Lose c) sends notes new = Steps f old c (event.Lose c) sends notes no_session new
Step f old (event.Pause c) sends notes new = StepsAlone f old (event.Pause c) sends notes new
Step f old (event.Resume c) sends notes new = StepsAlone f old (event.Resume c) sends notes new
Step f old (event.Deliver c) sends notes new = StepsAlone f old (event.Deliver c) sends notes new
