-- The phase and the limits of a connection, and how a close or a fault changes the phase. Source: AMQP 0-9-1, section 2.2.4, "The Connection Class".
use Rattle.std.specs.Prelude.{ℕ, List, [], ◌∷◌, Bool, true, false, ◌==◌, if◌then◌else◌}
use Rattle.model.specs.Grammar.{ids}
use Rattle.model.specs.Step.{reply, connection_close}
use Rattle.model.specs.declared.events.Phase.{Phase}
use Rattle.model.specs.declared.events.Phase.TheVariants as phase
use Rattle.model.specs.declared.events.Send.{Send}
use Rattle.model.specs.declared.events.Send.TheVariants as send
use Rattle.model.specs.declared.methods.Method.{Method}
use Rattle.model.specs.declared.methods.Method.TheVariants.{ConnectionClose, ConnectionCloseOk}

-- The phase of a connection, and its limits.
pub record Session : Type 0 where
  pub phase : Phase
  -- The limits in force: the highest channel number, and the largest frame in bytes.
  pub channel_max : ℕ
  pub frame_max : ℕ

-- The session of a connection that is opened as running, with the limits that hold if none were agreed on (own).
abbrev pub running_session : Session
running_session = record { phase = phase.Running; channel_max = 255; frame_max = 131072 }

-- The session of a connection that was never opened, is over, or is lost.
abbrev pub no_session : Session
no_session = record { phase = phase.Over; channel_max = 255; frame_max = 131072 }

-- The session in the phase `p`; one that is over keeps no limits.
abbrev pub to_phase : Session → Phase → Session
to_phase s phase.Over = no_session
to_phase s p = record s { phase = p }

-- Whether the phase is the one in which the broker performs commands.
abbrev pub is_running : Phase → Bool
is_running phase.Running = true
is_running p = false

-- ---- what a phase answers

-- What is sent by a phase that answers by itself, and the session after it.
pub record Move : Type 0 where
  pub sends : List Send
  pub next : Session

-- Sends nothing, and stays in the session.
abbrev pub stays_in : Session → Move
stays_in s = record { sends = []; next = s }

-- What a method does while close-ok is awaited: on channel 0 a close is answered and the phase
-- stays, and close-ok ends the connection. All else is ignored, these two on other channels, too.
abbrev pub while_closing : ℕ → Session → ℕ → Method → Move
while_closing c s h (ConnectionClose m) = if h == 0 then record { sends = reply c 0 ConnectionCloseOk ∷ []; next = s } else stays_in s
while_closing c s h ConnectionCloseOk = if h == 0 then record { sends = []; next = to_phase s phase.Over } else stays_in s
while_closing c s h m = stays_in s

-- What a fault of the stream does: the close with its code is sent, and the connection is over. Nothing is sent while close-ok is awaited (own).
abbrev pub faulted : ℕ → Session → Phase → ℕ → Move
faulted c s phase.Closing code = record { sends = []; next = to_phase s phase.Over }
faulted c s phase.Over code = stays_in s
faulted c s p code = record { sends = connection_close c code (ids 0 0) ∷ []; next = to_phase s phase.Over }

-- ---- the phase after an event in Running, by what was sent: after a close, close-ok is awaited; a close-ok ends the connection

-- The phase after this method was sent; `p` is the phase to which the sends after it lead.
abbrev pub after_method : Method → Phase → Phase
after_method (ConnectionClose m) p = phase.Closing
after_method ConnectionCloseOk p = phase.Over
after_method m p = p

-- The phase after these sends: the first connection.close or close-ok among them decides, and without one it is Running.
abbrev pub after_sends : List Send → Phase
after_sends [] = phase.Running
after_sends (send.Greeting c ∷ sends) = after_sends sends
after_sends (send.Command c h m content ∷ sends) = after_method m (after_sends sends)
