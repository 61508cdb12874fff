-- Frames on the wire. Source: AMQP 0-9-1, section 4.2.3, "General Frame Format".
use Rattle.std.specs.Prelude.{◌≡◌, ◌<◌, ◌≤◌, ◌+◌, ◌^◌, ℕ, List, [], ◌∷◌, ◌++◌, length, flat_map, ◌⊎◌}
use Rattle.std.specs.Int.{w16, w32, to_be_bytes}
use Rattle.std.specs.List.{AllByRecursion}

-- A frame. Its type is 1 for a method, 2 for a content header, 3 for a body, and 8 for a heartbeat.
pub record Frame : Type 0 where
  pub kind : ℕ
  pub channel : ℕ
  pub payload : List ℕ

-- The bytes of a frame: type, channel, size, payload, and the end byte CE.
abbrev pub frame_bytes : Frame → List ℕ
frame_bytes f = f.kind ∷ to_be_bytes w16 f.channel ++ to_be_bytes w32 (length f.payload) ++ f.payload ++ 206 ∷ []

-- The frame may be on a wire whose frames have at most `max` bytes, head and end included.
pub record IsFrame (max : ℕ) (f : Frame) : Type 0 where
  pub kind : (f.kind ≡ 1) ⊎ (f.kind ≡ 2) ⊎ (f.kind ≡ 3) ⊎ (f.kind ≡ 8)
  pub channel : f.channel < 2 ^ 16
  pub size : length f.payload + 8 ≤ max

-- The bytes begin with the frame `f`, of at most `max` bytes, and `rest` follows it.
pub record Begins (max : ℕ) (bytes : List ℕ) (f : Frame) (rest : List ℕ) : Type 0 where
  pub parts : bytes ≡ frame_bytes f ++ rest
  pub fits : IsFrame max f

-- The bytes have a whole frame head, and do not begin with a frame, whatever bytes follow.
pub record IsBroken (max : ℕ) (bytes : List ℕ) : Type 0 where
  pub long : 7 ≤ length bytes
  pub never : (more rest : List ℕ) (f : Frame) → Begins max (bytes ++ more) f rest → ⊥

-- The bytes are the frames `fs`, one after another.
pub record AreFrames (max : ℕ) (bytes : List ℕ) (fs : List Frame) : Type 0 where
  pub parts : bytes ≡ flat_map frame_bytes fs
  pub each : AllByRecursion (IsFrame max) fs
