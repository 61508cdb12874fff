-- What `read_frame` must return. Source: AMQP 0-9-1, section 4.2.3, "General Frame Format".
use Rattle.std.specs.Prelude.{◌≡◌, ◌<◌, ◌⊎◌, ℕ, List, ◌++◌, length, drop, slice_index}
use Rattle.model.specs.Frames
use Rattle.model.specs.Frames.{frame_bytes, Begins, IsBroken}
use Rattle.frame.specs.declared.frames.Frame.{Frame}
use Rattle.frame.specs.declared.frames.ReadFrame.{ReadFrame}
use Rattle.frame.specs.declared.frames.ReadFrame.TheVariants.{Whole, More, Fault}

-- the frame as `model` defines it: type, channel and the bytes of the payload
abbrev pub seen : Frame → Frames.Frame
seen f = record { kind = f.kind; channel = f.channel; payload = f.payload.now }

-- a frame type of AMQP: method (1), content header (2), body (3) or heartbeat (8)
abbrev pub IsKind : ℕ → Type 0
IsKind kind = (kind ≡ 1) ⊎ (kind ≡ 2) ⊎ (kind ≡ 3) ⊎ (kind ≡ 8)

-- `bytes` can be completed: with some `more` bytes appended they begin with a whole frame
pub record MayGoOn (max : ℕ) (bytes : List ℕ) : Type 0 where
  pub more : List ℕ
  pub are_bytes : (i : ℕ) → slice_index more i < 256
  pub rest : List ℕ
  pub frame : Frames.Frame
  pub front : Begins max (bytes ++ more) frame rest

-- no whole frame is at the front, and either fewer than 7 bytes are there or more bytes can complete a frame
pub record IsUnfinished (max : ℕ) (bytes : List ℕ) : Type 0 where
  pub none : (rest : List ℕ) (f : Frames.Frame) → Begins max bytes f rest → ⊥
  pub open_still : (length bytes < 7) ⊎ MayGoOn max bytes
  pub unbroken : IsBroken max bytes → ⊥

-- the frame `f` is at the front, and is `size` bytes long
pub record IsFrontFrame (max : ℕ) (bytes : List ℕ) (f : Frame) (size : ℕ) : Type 0 where
  pub front : Begins max bytes (seen f) (drop size bytes)
  pub whole : size ≡ length (frame_bytes (seen f))

-- the result of `read_frame` is right: the frame at the front and its length, `More` if it is unfinished, 501 if no further bytes can complete it
abbrev pub ReturnsFrame : ℕ → List ℕ → ReadFrame → Type 0
ReturnsFrame max bytes (Whole f len) = IsFrontFrame max bytes f len
ReturnsFrame max bytes More = IsUnfinished max bytes
ReturnsFrame max bytes (Fault code) = (code ≡ 501) × IsBroken max bytes

-- the result is the frame `g`, and `rest` are the bytes after it
abbrev pub IsWholeFrame : List ℕ → ReadFrame → Frames.Frame → List ℕ → Type 0
IsWholeFrame bytes (Whole f len) g rest = (seen f ≡ g) × (drop len bytes ≡ rest)
IsWholeFrame bytes More g rest = ⊥
IsWholeFrame bytes (Fault code) g rest = ⊥
