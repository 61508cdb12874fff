-- Functions that the definitions give step by step, described as a whole.
use Rattle.std.specs.Prelude.{◌≡◌, ◌<◌, ◌≤◌, ◌+◌, ℕ, List, Bool, true, false, Option, Some, None, length, map, filter, find, flat_map, not, ◌&&◌, slice_get}
use Rattle.std.specs.Str.{bytes_eq}
use Rattle.model.specs.Words.{Text}
use Rattle.model.specs.Topology.{Topology}
use Rattle.model.specs.Broker.{is_full}
use Rattle.model.specs.Entering.{comes_to}
use Rattle.model.specs.Message.{Message}
use Rattle.model.specs.Phases.{after_method, after_sends}
use Rattle.model.specs.Spelling.{pieces_of}
use Rattle.model.specs.declared.messages.Entry.{Entry}
use Rattle.model.specs.declared.messages.Mark.TheVariants.{Ready}
use Rattle.model.specs.declared.events.Phase.{Phase}
use Rattle.model.specs.declared.events.Phase.TheVariants as phase
use Rattle.model.specs.declared.events.Send.{Send}
use Rattle.model.specs.declared.events.Send.TheVariants.{Greeting, Command}
use Rattle.model.specs.declared.methods.Method.{Method}
use Rattle.model.specs.declared.methods.Method.TheVariants.{ConnectionClose, ConnectionCloseOk}

-- ---- what comes to a queue

-- Whether the queue `r` is `q`, and takes a body of `size` bytes.
abbrev pub takes_there : Topology → (Text → List Entry) → ℕ → Text → Text → Bool
takes_there t entries size q r = bytes_eq r q && not (is_full t entries r size)

-- The queue `q` gets the message, ready, as often as it is among `targets`, and not at all if it is full.
abbrev pub MessagesCome : Type 0
MessagesCome = (t : Topology) (entries : Text → List Entry) (m : Message) (q : Text) (targets : List Text)
    → comes_to t entries m q targets ≡ map (λ r. record { message = m; mark = Ready }) (filter (takes_there t entries (length m.content.body) q) targets)

-- ---- the pieces of a body

-- The pieces are the bytes, one piece after another. Each has at least one byte and at most `size`, and each but the last has `size`.
pub record ArePieces (size : ℕ) (bytes : List ℕ) (pieces : List (List ℕ)) : Type 0 where
  pub whole : flat_map (λ p. p) pieces ≡ bytes
  pub some : (i : ℕ) (p : List ℕ) → slice_get pieces i ≡ Some p → 1 ≤ length p
  pub most : (i : ℕ) (p : List ℕ) → slice_get pieces i ≡ Some p → length p ≤ size
  pub full : (i : ℕ) (p : List ℕ) → slice_get pieces i ≡ Some p → i + 1 < length pieces → length p ≡ size

-- A body is cut into pieces of `size` bytes, of which only the last may be shorter (`ArePieces`).
abbrev pub BodiesAreCut : Type 0
BodiesAreCut = (size : ℕ) (bytes : List ℕ) → 1 ≤ size → ArePieces size bytes (pieces_of size (length bytes) bytes)

-- ---- the phase after what was sent

-- Whether sending the method changes the phase: connection.close and close-ok do.
abbrev pub method_changes_phase : Method → Bool
method_changes_phase (ConnectionClose m) = true
method_changes_phase ConnectionCloseOk = true
method_changes_phase m = false

-- Whether the send carries a method that changes the phase.
abbrev pub changes_phase : Send → Bool
changes_phase (Greeting c) = false
changes_phase (Command c h m content) = method_changes_phase m

-- The phase after the first send that changes it; Running if there is no such send.
abbrev pub phase_after : Option Send → Phase
phase_after (Some (Command c h m content)) = after_method m phase.Running
phase_after (Some (Greeting c)) = phase.Running
phase_after None = phase.Running

-- The first connection.close or close-ok among the sends decides the phase; without one it is Running.
abbrev pub FirstDecides : Type 0
FirstDecides = (sends : List Send) → after_sends sends ≡ phase_after (find changes_phase sends)
