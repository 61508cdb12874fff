-- The value of a `Buffer`, and what putting bytes into it means.
use Rattle.std.specs.Prelude.{◌≡◌, ◌≤◌, ◌+◌, ℕ, List, [], ◌++◌, length}

-- a byte queue with its spare room and the size of its storage
pub record WaitingBytes : Type 0 where
  -- the bytes that were put and not yet taken, oldest first
  pub bytes : List ℕ
  -- the number of bytes that can be put without an allocation
  pub room : ℕ
  -- the size of the storage in bytes
  pub storage : ℕ

-- `more` was appended, and the room shrank by at most its length
pub record PutsBytes (old : WaitingBytes) (more : List ℕ) (new : WaitingBytes) : Type 0 where
  pub bytes : new.bytes ≡ old.bytes ++ more
  pub room : old.room ≤ new.room + length more

-- an empty buffer holds no storage
abbrev pub HoldsNone : WaitingBytes → Type 0
HoldsNone w = w.bytes ≡ [] → w.storage ≡ 0
