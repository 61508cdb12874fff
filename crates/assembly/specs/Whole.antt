-- A publish whose frames are all unread.
use Rattle.std.specs.Prelude.{◌≡◌, ◌<◌, ◌≤◌, ℕ, List, Bool, length, drop, false, Ok}
use Rattle.model.specs.Commands.{is_on_wrong_channel, is_too_large}
use Rattle.model.specs.Frames.{Begins, Frame}
use Rattle.model.specs.Headers.{SaysSize, SaysHeader}
use Rattle.model.specs.declared.contents.Content.{Content}
use Rattle.model.specs.declared.events.Command.{Command}
use Rattle.assembly.specs.Held.{stream}
use Rattle.assembly.specs.Onward.{GivesCommand}
use Rattle.assembly.specs.declared.contents.Awaited.{Awaited}
use Rattle.assembly.specs.declared.publishes.ContentFrames.{ContentFrames}

-- a frame of this type, channel and payload, not on a wrong channel, is at the front of `bytes`, and is `size` bytes long
pub record IsFrontPayload (max kind channel : ℕ) (bytes payload : List ℕ) (size : ℕ) : Type 0 where
  pub front : Begins max bytes (record { kind = kind; channel = channel; payload = payload }) (drop size bytes)
  pub right : is_on_wrong_channel (record { kind = kind; channel = channel; payload = payload }) ≡ false
  pub within : size ≤ length bytes

-- at the front of `bytes` is the header frame, and then the body frame, of the same channel, which may have them
pub record AreContentFrames (max channel : ℕ) (bytes : List ℕ) (frames : ContentFrames) : Type 0 where
  pub rest : List ℕ
  pub header : Begins max bytes (record { kind = 2; channel = channel; payload = frames.header.now }) rest
  pub header_right : is_on_wrong_channel (record { kind = 2; channel = channel; payload = frames.header.now }) ≡ false
  pub body : Begins max rest (record { kind = 3; channel = channel; payload = frames.body.now }) (drop frames.length bytes)
  pub body_right : is_on_wrong_channel (record { kind = 3; channel = channel; payload = frames.body.now }) ≡ false
  pub within : frames.length ≤ length bytes

-- the content is what the payloads of a header and of a body frame encode; its body is whole, not empty, and not too large
pub record IsWholeContent (header body : List ℕ) (content : Content) : Type 0 where
  pub size : SaysSize header (Ok (length body))
  pub says : SaysHeader header (Ok (record { size = length body; properties = content.properties }))
  pub same : content.body ≡ body
  pub some : 0 < length body
  pub small : is_too_large header (length body) ≡ false

-- for any bytes that begin with `frame` and go on with `rest`, `c` is the next command, and `size` bytes of `rest` are read with it
abbrev pub GivesWhole : ℕ → Bool → List Awaited → Frame → List ℕ → Command → ℕ → Type 0
GivesWhole max keeps contents frame rest c size = (bytes : List ℕ) → Begins max bytes frame rest
    → GivesCommand (stream false max keeps contents bytes) c (stream false max keeps contents (drop size rest))
