-- When a stream has something to read (own). If it doesn't, reading never allocates.
use Rattle.std.specs.Prelude.{◌≡◌, ◌≤◌, ℕ, List, length, true, false}
use Rattle.model.specs.Frames.{Frame, Begins, IsBroken}
use Rattle.model.specs.Commands.{Stream}

-- the first eight bytes are there if they are awaited; otherwise a whole frame is at the front, or bytes that no frame can begin with
pub data HasFront : Stream → Type 0 where
  eight : {s : Stream} → s.is_new ≡ true → 8 ≤ length s.unread → HasFront s
  whole : {s : Stream} {f : Frame} {rest : List ℕ} → s.is_new ≡ false → Begins s.max s.unread f rest → HasFront s
  broken : {s : Stream} → s.is_new ≡ false → IsBroken s.max s.unread → HasFront s
