-- A law that holds for all frames.
use Rattle.std.specs.Prelude.{◌≡◌, ◌<◌, ◌^◌, ℕ, List}
use Rattle.model.specs.Frames.{Frame, Begins}

-- if bytes begin with the frames `f` and `g`, then `f` and `g` are equal, and so are the bytes after them
abbrev pub OneFrame : Type 0
OneFrame = (max : ℕ) (bytes more rest : List ℕ) (f g : Frame) → max < 2 ^ 32 → Begins max bytes f more → Begins max bytes g rest → (f ≡ g) × (more ≡ rest)
