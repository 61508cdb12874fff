-- The frames that a content is sent in: its header and its body.
use Rattle.std.specs.Prelude.{◌-◌, ℕ, List, length, map, flat_map}
use Rattle.model.specs.Frames.{Frame, frame_bytes}
use Rattle.model.specs.Headers.{header_bytes}
use Rattle.model.specs.Spelling.{body_frame, pieces_of}
use Rattle.model.specs.declared.contents.Content.{Content}

-- the header of a content on channel h, as a frame
abbrev pub header_frame : ℕ → Content → Frame
header_frame h content = record { kind = 2; channel = h; payload = header_bytes (length content.body) content.properties }

-- a body on channel h, in frames of at most `max` bytes
abbrev pub body_bytes : ℕ → ℕ → List ℕ → List ℕ
body_bytes max h body = flat_map frame_bytes (map (body_frame h) (pieces_of (max - 8) (length body) body))
