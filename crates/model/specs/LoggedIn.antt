-- Who passes the login of a connection (AMQP 0-9-1, section 2.2.4, "The Connection Class"; RFC 4616).
use Rattle.std.specs.Prelude.{◌≡◌, ℕ, List, Bool, true, false}
use Rattle.model.specs.Login.{IsLogin}
use Rattle.model.specs.Run.{Happening}
use Rattle.model.specs.declared.messages.User.{User}
use Rattle.model.specs.declared.methods.Method.TheVariants.{ConnectionStartOk}
use Rattle.model.specs.declared.events.Event.{Event}
use Rattle.model.specs.declared.events.Event.TheVariants.{Running, Command}
use Rattle.model.specs.declared.events.Phase.{Phase}
use Rattle.model.specs.declared.events.Phase.TheVariants as phase

-- Whether the phase is past the login: limits are to be agreed on, open is awaited, or the connection runs.
abbrev pub is_past_login : Phase → Bool
is_past_login phase.Tune = true
is_past_login phase.Open = true
is_past_login phase.Running = true
is_past_login p = false

-- By this event connection `d` logs in on its channel 0, as one of `users` and with that user's password, or it is opened to run at once (own).
abbrev pub ComesIn : List User → Event → ℕ → Type 0
ComesIn users (Command c h (ConnectionStartOk m) content) d = (d ≡ c) × (h ≡ 0) × IsLogin users m.mechanism m.response
ComesIn users (Running c max k) d = d ≡ c
ComesIn users e d = ⊥

-- Each connection that is past its login after the event, and was not before it, logged in by the event.
abbrev pub EntersByLogin : Happening → Type 0
EntersByLogin h = (c : ℕ) → is_past_login (h.before.session c).phase ≡ false → is_past_login (h.after.session c).phase ≡ true → ComesIn h.config.users h.event c
