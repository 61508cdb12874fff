-- An event of one connection leaves the others' channels alone (AMQP 0-9-1, section 2.2.4, "The Connection Class").
use Rattle.std.specs.Prelude.{◌≡◌, ◌≢◌, ℕ, true, Some, is_some}
use Rattle.model.specs.Broker.{Channel}
use Rattle.model.specs.Phases.{is_running}
use Rattle.model.specs.State.{State}
use Rattle.model.specs.Run.{Happening}
use Rattle.model.specs.declared.events.Event.{Event}
use Rattle.model.specs.declared.events.Event.TheVariants.{Open, First, Running, Command, TooLarge, Fault, Lose, Pause, Resume, Deliver}

-- The connection to which the event belongs.
abbrev pub event_connection : Event → ℕ
event_connection (Open c) = c
event_connection (First c bytes) = c
event_connection (Running c max k) = c
event_connection (Command c h m content) = c
event_connection (TooLarge c h) = c
event_connection (Fault c code) = c
event_connection (Lose c) = c
event_connection (Pause c) = c
event_connection (Resume c) = c
event_connection (Deliver c) = c

-- The event changes no channel of another connection, and so no unacknowledged delivery there.
abbrev pub ChangesOwnAlone : Happening → Type 0
ChangesOwnAlone h = (d : ℕ) → d ≢ event_connection h.event → (k : ℕ) → h.after.broker.channel d k ≡ h.before.broker.channel d k

-- The broker has a connection exactly while the connection runs, and a connection has channels only while the broker has it.
pub record ArePresent (s : State) : Type 0 where
  pub connections : (c : ℕ) → is_some (s.broker.connection c) ≡ is_running (s.session c).phase
  pub channels : (c k : ℕ) (ch : Channel) → s.broker.channel c k ≡ Some ch → is_some (s.broker.connection c) ≡ true
