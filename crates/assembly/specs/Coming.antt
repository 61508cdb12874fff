-- The storage of a body that is coming.
use Rattle.std.specs.Prelude.{◌≤◌, ◌*◌, [], ℕ, List, length}

-- the bytes of a body that have come, and the size of their storage
pub record Coming : Type 0 where
  -- the bytes that have come
  pub bytes : List ℕ
  -- how many bytes the storage had when it was last created or grown
  pub kept : ℕ

-- what has come of a body at first: no byte, and there is no storage
abbrev pub nothing_came : Coming
nothing_came = record { bytes = []; kept = 0 }

-- the storage is at most twice what has come, whatever size is declared
abbrev pub GrowsAsItComes : Coming → Type 0
GrowsAsItComes body = body.kept ≤ 2 * length body.bytes
