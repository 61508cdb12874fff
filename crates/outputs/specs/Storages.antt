-- How much an output may have to hold, and which storages wait for outputs (own). Start with `SpareCounts`.
use Rattle.std.specs.Prelude.{◌≡◌, ◌≢◌, ◌≤◌, ◌+◌, ◌-◌, ◌==◌, if◌then◌else◌, ℕ, List, length}
use Rattle.model.specs.Sending.{most_sent}
use Rattle.outputs.specs.Waiting.{WaitingBytes}
use Rattle.outputs.specs.declared.room.Room.{Room}
use Rattle.outputs.specs.declared.room.Room.TheVariants.{Reply, Content}

-- ---- sizes

-- The most bytes that encode an event's sends if none has a content: one method, of at most 4,088 bytes.
abbrev pub most_reply : ℕ
most_reply = 4096

-- the most bytes that encode sends of this kind
abbrev pub room_of : Room → ℕ
room_of Reply = most_reply
room_of Content = most_sent

-- the most bytes that move from one storage to another
abbrev pub most_moved : ℕ
most_moved = 65536

-- the size in bytes of a new storage; one for contents has room for the most bytes that move to it, and behind them for the largest sends
abbrev pub storage_of : Room → ℕ
storage_of Reply = most_moved
storage_of Content = most_sent + most_moved

-- how many storages are allocated at the start
abbrev pub reserve_of : Room → ℕ
reserve_of Reply = 16
reserve_of Content = 8

-- how many storages are left once the reserve was freed
abbrev pub left_of : Room → ℕ
left_of Reply = 8
left_of Content = 2

-- ---- spare storages

-- how many storages no output holds, by what they have room for
pub record SpareCounts : Type 0 where
  pub replies : ℕ
  pub contents : ℕ

-- how many of these are spare
abbrev pub spare_for : Room → SpareCounts → ℕ
spare_for Reply spares = spares.replies
spare_for Content spares = spares.contents

-- one of these was given out, if one was spare
abbrev pub without_one : Room → SpareCounts → SpareCounts
without_one Reply spares = record spares { replies = spares.replies - 1 }
without_one Content spares = record spares { contents = spares.contents - 1 }

-- the kind of storage to which these bytes move: a large one if there are any, otherwise one for `wanted`
abbrev pub kind_for : Room → List ℕ → Room
kind_for wanted bytes = if length bytes == 0 then wanted else Content

-- All of the reserve is spare.
pub record IsWhole (spares : SpareCounts) : Type 0 where
  pub replies : reserve_of Reply ≤ spares.replies
  pub contents : reserve_of Content ≤ spares.contents

-- at most `replies` storages for replies are spare, and at most `contents` for contents
pub record AreAtMost (replies contents : ℕ) (spares : SpareCounts) : Type 0 where
  pub replies_most : spares.replies ≤ replies
  pub contents_most : spares.contents ≤ contents

-- the reserve was freed
abbrev pub IsReleased : SpareCounts → Type 0
IsReleased spares = AreAtMost (left_of Reply) (left_of Content) spares

-- No storage of the reserve was freed: at most those that are more than it were.
pub record KeepsReserve (old new : SpareCounts) : Type 0 where
  pub replies_few : old.replies ≤ reserve_of Reply → new.replies ≡ old.replies
  pub replies_many : reserve_of Reply ≤ old.replies → reserve_of Reply ≤ new.replies
  pub contents_few : old.contents ≤ reserve_of Content → new.contents ≡ old.contents
  pub contents_many : reserve_of Content ≤ old.contents → reserve_of Content ≤ new.contents

-- A storage came back where `old` were spare. It is kept while at most 16 are; beyond 256, or for one that nobody took for long, one is freed.
pub record ComesBack (old new : ℕ) : Type 0 where
  pub kept : old ≤ 16 → new ≡ old + 1
  pub freed : 256 ≤ old → new ≤ old
  pub most : new ≤ old + 1
  pub least : old ≤ new

-- A storage of `bytes` bytes came back. It joins those of its size; one of another size is freed.
pub record TakesIn (bytes : ℕ) (old new : SpareCounts) : Type 0 where
  pub reply : bytes ≡ storage_of Reply → ComesBack old.replies new.replies × (new.contents ≡ old.contents)
  pub content : bytes ≡ storage_of Content → ComesBack old.contents new.contents × (new.replies ≡ old.replies)
  pub other : bytes ≢ storage_of Reply → bytes ≢ storage_of Content → new ≡ old

-- The bytes of the output move to a storage with room for `wanted`: one was given out, if one was spare, and that of the output came back.
abbrev pub MovesBytes : Room → WaitingBytes → SpareCounts → SpareCounts → Type 0
MovesBytes wanted output old new = TakesIn output.storage (without_one (kind_for wanted output.bytes) old) new

-- ---- one storage, and those of one size

-- a spare storage: how many had come back when it did, and its size
pub record Storage : Type 0 where
  pub since : ℕ
  pub bytes : ℕ

-- the storage has at least `bytes` bytes
abbrev pub HasBytes : ℕ → Storage → Type 0
HasBytes bytes s = bytes ≤ s.bytes

-- the spare storages for sends of one kind
pub record Pooled : Type 0 where
  pub kind : Room
  pub count : ℕ
