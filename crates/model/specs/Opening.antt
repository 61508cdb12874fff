-- The phases of a connection before it runs: what each awaits, and what it answers. Source: AMQP 0-9-1,
-- section 2.2.4, "The Connection Class", and its XML; RabbitMQ, "Capabilities"; the server's limits are own.
use Rattle.std.specs.Prelude.{codes, ◌≡◌, ℕ, List, [], ◌∷◌, Bool, true, nat_le, ◌==◌, ◌&&◌, ◌||◌, if◌then◌else◌, MatchBool}
use Rattle.std.specs.Str.{bytes_eq}
use Rattle.model.specs.Words.{Text}
use Rattle.model.specs.Tables.{Pairs, pair, no_pairs, Truth, Inner_table, Long_string, pairs_bytes}
use Rattle.model.specs.Grammar.{ids_of}
use Rattle.model.specs.Step.{reply, connection_close}
use Rattle.model.specs.Spelling.{eight_bytes}
use Rattle.model.specs.Phases.{Session, Move, to_phase, stays_in, while_closing}
use Rattle.model.specs.Login.{IsLogin}
use Rattle.model.specs.declared.messages.User.{User}
use Rattle.model.specs.declared.events.Phase.{Phase}
use Rattle.model.specs.declared.events.Phase.TheVariants as phase
use Rattle.model.specs.declared.events.Send.TheVariants as send
use Rattle.model.specs.declared.methods.Tuning.{Tuning}
use Rattle.model.specs.declared.methods.Method.{Method}
use Rattle.model.specs.declared.methods.Method.TheVariants.{
  ConnectionStart,
  ConnectionStartOk,
  ConnectionTune,
  ConnectionTuneOk,
  ConnectionOpen,
  ConnectionOpenOk,
  ConnectionClose,
  ConnectionCloseOk,
}

-- ---- what the server says

-- The capabilities that the server announces: what it has beyond AMQP 0-9-1.
abbrev pub capabilities : Pairs
capabilities =
    pair (codes "publisher_confirms") (Truth true)
    (pair (codes "exchange_exchange_bindings") (Truth true)
    (pair (codes "basic.nack") (Truth true) no_pairs))

-- The properties that the server sends of itself.
abbrev pub server_properties : Pairs
server_properties = pair (codes "capabilities") (Inner_table capabilities) (pair (codes "product") (Long_string (codes "warren")) no_pairs)

-- connection.start: version 0-9, the one mechanism, and the one locale.
abbrev pub start : Method
start = ConnectionStart
    (record { version_major = 0; version_minor = 9; server_properties = pairs_bytes server_properties; mechanisms = codes "PLAIN"; locales = codes "en_US" })

-- connection.tune: channels up to 255, frames of at most 131,072 bytes, and no heartbeats (own).
abbrev pub tune : Method
tune = ConnectionTune (record { channel_max = 255; frame_max = 131072; heartbeat = 0 })

-- connection.open-ok, whose argument is reserved.
abbrev pub open_ok : Method
open_ok = ConnectionOpenOk []

-- ---- limits

-- The session of a connection that was just opened. Until limits are agreed on, a frame
-- has at most 4,096 bytes, that of the tune-ok included (AMQP 0-9-1, frame-min-size).
abbrev pub new_session : Session
new_session = record { phase = phase.Header; channel_max = 255; frame_max = 4096 }

-- Whether a tune-ok is accepted: no limit is above the server's, frames of 4,096 bytes
-- are allowed, and there are no heartbeats. 0 means no limit of the client's own.
abbrev pub is_taken : Tuning → Bool
is_taken t = (nat_le t.channel_max 255 && ((t.frame_max == 0) || (nat_le 4096 t.frame_max && nat_le t.frame_max 131072))) && (t.heartbeat == 0)

-- The limit `n`, or the server's if it is 0.
abbrev pub or_own : ℕ → ℕ → ℕ
or_own own n = if n == 0 then own else n

-- The session after this tune-ok: its limits are in force, and connection.open is awaited.
abbrev pub tuned : Tuning → Session
tuned t = record { phase = phase.Open; channel_max = or_own 255 t.channel_max; frame_max = or_own 131072 t.frame_max }

-- ---- what is answered

-- Sends `m` on channel 0, and moves to the phase `p`.
abbrev pub answers_with : ℕ → Session → Method → Phase → Move
answers_with c s m p = record { sends = reply c 0 m ∷ []; next = to_phase s p }

-- Sends connection.close with this code and the ids of the method that caused it, and awaits close-ok.
abbrev pub closes_with : ℕ → Session → ℕ → Method → Move
closes_with c s code cause = record { sends = connection_close c code (ids_of cause) ∷ []; next = to_phase s phase.Closing }

-- Answers start-ok with tune if it is a login, and otherwise with close 403; any other method with close 503.
abbrev pub at_start : ℕ → Bool → Session → Method → Move
at_start c is_user s (ConnectionStartOk m) = if is_user then answers_with c s tune phase.Tune else closes_with c s 403 (ConnectionStartOk m)
at_start c is_user s m = closes_with c s 503 m

-- Accepts tune-ok without an answer, or closes with 530; closes with 503 for any other method.
abbrev pub at_tune : ℕ → Session → Method → Move
at_tune c s (ConnectionTuneOk t) = if is_taken t then record { sends = []; next = tuned t } else closes_with c s 530 (ConnectionTuneOk t)
at_tune c s m = closes_with c s 503 m

-- Answers connection.open with open-ok for the virtual host `/`, and otherwise with close 530 (own); any other method with close 503.
abbrev pub at_open : ℕ → Session → Method → Move
at_open c s (ConnectionOpen m) = if bytes_eq m.virtual_host (codes "/") then answers_with c s open_ok phase.Running else closes_with c s 530 (ConnectionOpen m)
at_open c s m = closes_with c s 503 m

-- Answers a client's connection.close, after which the connection is over; any other method makes `move`.
abbrev pub or_closed : ℕ → Session → Method → Move → Move
or_closed c s (ConnectionClose m) move = answers_with c s ConnectionCloseOk phase.Over
or_closed c s m move = move

-- Answers a method on channel 0: a client's close with close-ok, and any other by `move`. A method on another channel is answered with close 503.
abbrev pub on_zero : ℕ → Session → ℕ → Method → Move → Move
on_zero c s h m move = if h == 0 then or_closed c s m move else closes_with c s 503 m

-- Answers a method on channel `h` in the phases that await start-ok, tune-ok and open; `is_user` says whether it is a login. Any other phase stays.
abbrev pub opening_move : ℕ → Bool → Session → Phase → ℕ → Method → Move
opening_move c is_user s phase.Start h m = on_zero c s h m (at_start c is_user s m)
opening_move c is_user s phase.Tune h m = on_zero c s h m (at_tune c s m)
opening_move c is_user s phase.Open h m = on_zero c s h m (at_open c s m)
opening_move c is_user s p h m = stays_in s

-- Answers the first eight bytes, in the phase that awaits them: the protocol header with start, and
-- any other eight with the protocol header, after which the connection is over. Any other phase stays.
abbrev pub first_move : ℕ → Session → Phase → Text → Move
first_move c s phase.Header bytes = if bytes_eq bytes eight_bytes then answers_with c s start phase.Start
    else record { sends = send.Greeting c ∷ []; next = to_phase s phase.Over }
first_move c s p bytes = stays_in s

-- The phase awaits start-ok, and the method is one with a login of one of `users`.
abbrev pub LogsIn : List User → Phase → Method → Type 0
LogsIn users phase.Start (ConnectionStartOk m) = IsLogin users m.mechanism m.response
LogsIn users p m = ⊥

-- In a phase before Running, `move` answers the method; `users` may log in.
pub record MovesInOpening (users : List User) (c : ℕ) (s : Session) (h : ℕ) (m : Method) (move : Move) : Type 0 where
  pub is_user : Bool
  pub login : MatchBool is_user (LogsIn users s.phase m) (LogsIn users s.phase m → ⊥)
  pub moved : move ≡ opening_move c is_user s s.phase h m

-- What a phase other than Running answers to a method: Closing, or a phase before
-- Running, with `users` who may log in. A connection that is over answers nothing.
abbrev pub IsAnswered : List User → ℕ → Session → Phase → ℕ → Method → Move → Type 0
IsAnswered users c s phase.Closing h m move = move ≡ while_closing c s h m
IsAnswered users c s p h m move = MovesInOpening users c s h m move
