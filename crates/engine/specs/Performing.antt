-- The effect of one event of one connection. If the connection runs, the broker performs the event; otherwise the phase answers it.
use Rattle.std.specs.Prelude.{◌≡◌, ℕ, List, [], Bool, true, false}
use Rattle.model.specs.Topology.{Topology}
use Rattle.model.specs.Broker.{Broker}
use Rattle.model.specs.Step.{Acts, Is, empty_publish}
use Rattle.model.specs.Phases.{Session, Move, faulted, after_sends, to_phase}
use Rattle.model.specs.Opening.{IsAnswered, first_move}
use Rattle.model.specs.State.{after_move}
use Rattle.model.specs.declared.messages.User.{User}
use Rattle.model.specs.declared.events.Phase.{Phase}
use Rattle.model.specs.declared.events.Phase.TheVariants as phase
use Rattle.model.specs.declared.events.Send.{Send}
use Rattle.model.specs.declared.events.Event.{Event}
use Rattle.model.specs.declared.events.Event.TheVariants.{First, Command, TooLarge, Fault, Pause, Resume}
use Rattle.model.specs.declared.notes.Note.{Note}
use Rattle.broker.specs.Turns.{WithTurn, topology_kept, broker_of}
use Rattle.replies.specs.declared.steps.Step.{Step}

-- an event that a connection's bytes can ask for: the first eight bytes, a command or a fault of the stream
abbrev pub IsAskedBy : ℕ → Event → Type 0
IsAskedBy c (First d bytes) = d ≡ c
IsAskedBy c (Command d h m content) = d ≡ c
IsAskedBy c (TooLarge d h) = d ≡ c
IsAskedBy c (Fault d code) = d ≡ c
IsAskedBy c e = ⊥

-- the session after an event that the broker performed
abbrev pub session_after : Session → Event → List Send → Session
session_after s (Fault c code) sends = to_phase s phase.Over
session_after s e sends = to_phase s (after_sends sends)

-- what is in force for a connection: the topology that the broker runs, and the users who may log in
pub record Rules : Type 0 where
  pub topology : Topology
  pub users : List User

-- the rules of topology `t` and `users`
abbrev pub rules_of : Topology → List User → Rules
rules_of t users = record { topology = t; users = users }

-- what is in force: the topology that the broker runs, and `users`
abbrev pub rules_in : WithTurn → List User → Rules
rules_in b users = rules_of (topology_kept b) users

-- what a phase other than Running answers to an event that the connection's bytes ask for
abbrev pub IsAnswerTo : List User → Phase → Session → Event → Move → Type 0
IsAnswerTo users p s (First c bytes) move = move ≡ first_move c s p bytes
IsAnswerTo users p s (Command c h m content) move = IsAnswered users c s p h m move
IsAnswerTo users p s (TooLarge c h) move = IsAnswered users c s p h empty_publish move
IsAnswerTo users p s (Fault c code) move = move ≡ faulted c s p code
IsAnswerTo users p s e move = ⊥

-- The broker performs the event, and the phase follows what was sent.
pub record ByBroker (t : Topology) (b : Broker) (s : Session) (e : Event)
    (sends : List Send) (notes : List Note) (new_b : Broker) (new_s : Session) : Type 0 where
  pub acts : Acts t b e sends notes new_b
  pub session : new_s ≡ session_after s e sends

-- The phase answers connection c's event by itself: there are no notes, and the connection is opened at the broker if it is running afterwards.
pub record ByPhase (users : List User) (c : ℕ) (p : Phase) (b : Broker) (s : Session) (e : Event)
    (sends : List Send) (notes : List Note) (new_b : Broker) (new_s : Session) : Type 0 where
  pub asked : IsAskedBy c e
  pub answered : IsAnswerTo users p s e (record { sends = sends; next = new_s })
  pub noted : notes ≡ []
  pub broker : Is (after_move b c new_s) new_b

-- An event of connection c in phase p: in Running the broker performs it, in any other phase the session answers.
abbrev pub DecidesByPhase : ℕ → Phase → Rules → Broker → Session → Event → List Send → List Note → Broker → Session → Type 0
DecidesByPhase c phase.Running r b s e sends notes new_b new_s = ByBroker r.topology b s e sends notes new_b new_s
DecidesByPhase c p r b s e sends notes new_b new_s = ByPhase r.users c p b s e sends notes new_b new_s

-- `ByPhase`, with the session's phase and with the sends and notes of `step`
abbrev pub AnswersByPhase : List User → ℕ → WithTurn → Session → Event → Step → WithTurn → Session → Type 0
AnswersByPhase users c b s e step new_b new_s = ByPhase users c s.phase (broker_of b) s e step.sends.items step.notes.items (broker_of new_b) new_s

-- `DecidesByPhase`, with the session's phase, by the rules in force, and with the sends and notes of `step`
abbrev pub PerformsByPhase : List User → ℕ → WithTurn → Session → Event → Step → WithTurn → Session → Type 0
PerformsByPhase users c b s e step new_b new_s =
    DecidesByPhase c s.phase (rules_in b users) (broker_of b) s e step.sends.items step.notes.items (broker_of new_b) new_s

-- the broker pauses connection c
pub record IsPause (t : Topology) (c : ℕ) (b new : Broker) : Type 0 where
  pub acts : Acts t b (Pause c) [] [] new

-- the broker resumes connection c
pub record IsResume (t : Topology) (c : ℕ) (b new : Broker) : Type 0 where
  pub acts : Acts t b (Resume c) [] [] new

-- the pause or resume that a change of the output causes: `was` is whether the output was past the bound before, `is` whether it is after
abbrev pub PausesOr : Topology → ℕ → Bool → Bool → Broker → Broker → Type 0
PausesOr t c false true b new = IsPause t c b new
PausesOr t c true false b new = IsResume t c b new
PausesOr t c was is b new = new ≡ b
