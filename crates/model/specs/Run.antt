-- Whole runs: events that happen one after another, with what they note and send. Start with `Happening` and `Run`.
use Rattle.std.specs.Prelude.{◌≡◌, ◌<◌, ◌+◌, ℕ, List, [], ◌∷◌, Bool, false, ◌==◌, ◌&&◌, None, count_by, flat_map}
use Rattle.std.specs.Str.{bytes_eq}
use Rattle.model.specs.Words.{Text}
use Rattle.model.specs.Broker.{Broker}
use Rattle.model.specs.State.{Config, State, Step}
use Rattle.model.specs.Phases.{no_session}
use Rattle.model.specs.Spelling.{spelling, sends_to}
use Rattle.model.specs.declared.messages.Entry.{Entry}
use Rattle.model.specs.declared.events.Send.{Send}
use Rattle.model.specs.declared.notes.Note.{Note}
use Rattle.model.specs.declared.notes.Note.TheVariants.{Entered, Left}
use Rattle.model.specs.declared.events.Event.{Event}

-- The broker before any event: no connection, no message, and no publish counted.
abbrev pub empty_broker : Broker
empty_broker = record { published = 0; queue = λ q. []; connection = λ c. None; channel = λ c h. None }

-- The state before any event: no connection was opened.
abbrev pub empty_state : State
empty_state = record { broker = empty_broker; session = λ c. no_session }

-- One event, with the configuration in force at it, the states before and after it, and its sends and notes.
pub record Happening : Type 0 where
  pub config : Config
  pub event : Event
  pub before : State
  pub sends : List Send
  pub notes : List Note
  -- The largest frame, in bytes, of the connection that the sends are for.
  pub frame_max : ℕ
  pub after : State

-- From the state `old` the events may happen one after another, and leave the state `new`.
abbrev pub Run : State → List Happening → State → Type 0
Run old [] new = new ≡ old
Run old (h ∷ hs) new = (h.before ≡ old) × Step h.config h.before h.event h.sends h.notes h.after × Run h.after hs new

-- The notes of all events `hs`, in order.
abbrev pub notes_of : List Happening → List Note
notes_of hs = flat_map (λ (h : Happening). h.notes) hs

-- The sends of all events `hs`, in order.
abbrev pub sends_of : List Happening → List Send
sends_of hs = flat_map (λ (h : Happening). h.sends) hs

-- All bytes that the events `hs` put out for connection `c`, whether they were taken or not.
abbrev pub put_out : ℕ → List Happening → List ℕ
put_out c hs = flat_map (λ (h : Happening). spelling h.frame_max (sends_to c h.sends)) hs

-- ---- what the notes say of a queue

-- Whether the note says that a message of publish `n` entered the queue `q`, as a publish or a dead letter.
abbrev pub is_entered : ℕ → Text → Note → Bool
is_entered n q (Entered m r w) = (m == n) && bytes_eq r q
is_entered n q _ = false

-- Whether the note says that a message of publish `n` left the queue `q`, for any cause.
abbrev pub is_left : ℕ → Text → Note → Bool
is_left n q (Left m r cause) = (m == n) && bytes_eq r q
is_left n q _ = false

-- Whether the entry's message is of publish `n`.
abbrev pub has_number : ℕ → Entry → Bool
has_number n e = e.message.number == n

-- Every queue balances, for each publish number: as many messages were in it before the event, or entered it by the notes, as left it by the
-- notes or are in it after the event.
abbrev pub Balances : Broker → List Note → Broker → Type 0
Balances old notes new = (n : ℕ) (q : Text) →
    count_by (has_number n) (old.queue q) + count_by (is_entered n q) notes ≡ count_by (is_left n q) notes + count_by (has_number n) (new.queue q)

-- From `old` to `new`, each event begins where the one before it ended, and at each event every queue balances by the event's own notes.
abbrev pub Stays : Broker → List Happening → Broker → Type 0
Stays old [] new = new ≡ old
Stays old (h ∷ hs) new = (h.before.broker ≡ old) × Balances h.before.broker h.notes h.after.broker × Stays h.after.broker hs new

-- No message in a queue has a number above that of the publishes counted.
abbrev pub AreCounted : Broker → Type 0
AreCounted b = (n : ℕ) (q : Text) → b.published < n → count_by (has_number n) (b.queue q) ≡ 0
