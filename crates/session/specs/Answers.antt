-- The answers of the opening phases to a method (own), in the form that the code computes before it allocates.
use Rattle.std.specs.Prelude.{◌≤◌, ℕ, List, [], length, Bool, ⊤}
use Rattle.model.specs.Grammar.{IsMethod, method_bytes}
use Rattle.model.specs.Phases.{Session, Move, stays_in}
use Rattle.model.specs.Opening.{answers_with, at_start, at_tune, at_open}
use Rattle.model.specs.declared.events.Phase.{Phase}
use Rattle.model.specs.declared.events.Phase.TheVariants as phase
use Rattle.model.specs.declared.events.Send.{Send}
use Rattle.model.specs.declared.methods.Method.{Method}
use Rattle.session.specs.declared.answers.OpeningAnswer.{OpeningAnswer}
use Rattle.session.specs.declared.answers.OpeningAnswer.TheVariants.{Nothing, Tunes, Says}

-- the move of connection `c` and session `s` that an answer describes
abbrev pub move_of : ℕ → Session → OpeningAnswer → Move
move_of c s Nothing = stays_in s
move_of c s (Tunes channel_max frame_max) = record { sends = []; next = record { phase = phase.Open; channel_max = channel_max; frame_max = frame_max } }
move_of c s (Says m p) = answers_with c s m p

-- the move that sends `sends`, and leaves the session `next`
abbrev pub sending : List Send → Session → Move
sending sends next = record { sends = sends; next = next }

-- a method that the grammar allows, and that fits in a frame of 4,096 bytes
pub record Fits (m : Method) : Type 0 where
  pub method : IsMethod m
  pub size : length (method_bytes m) ≤ 4088

-- what holds of every answer: its frame length is within the server's range, or its method can be sent
abbrev pub IsAnswer : OpeningAnswer → Type 0
IsAnswer Nothing = ⊤
IsAnswer (Tunes channel_max frame_max) = (4096 ≤ frame_max) × (frame_max ≤ 131072)
IsAnswer (Says m p) = Fits m

-- the move of a phase for a method on channel 0 that is no close; `is_user` is whether the method is a valid login
abbrev pub awaited_move : ℕ → Bool → Session → Phase → Method → Move
awaited_move c is_user s phase.Start m = at_start c is_user s m
awaited_move c is_user s phase.Tune m = at_tune c s m
awaited_move c is_user s phase.Open m = at_open c s m
awaited_move c is_user s p m = stays_in s
