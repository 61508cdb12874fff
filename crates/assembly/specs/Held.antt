-- What contracts see of a `Stream`: begun contents, unread bytes, and what is cached.
use Rattle.std.specs.Prelude.{ℕ, List, Bool, Option}
use Rattle.model.specs.Commands.{Stream}
use Rattle.assembly.specs.declared.contents.Awaited.{Awaited}
use Rattle.assembly.specs.Names.{Learned}
use Rattle.assembly.specs.Pending.{pending_at}

-- the bytes of a connection that are not a command yet: contents that are begun, and unread bytes
pub record Held : Type 0 where
  -- whether the first eight bytes are awaited
  pub is_new : Bool
  -- the longest frame, in bytes
  pub max : ℕ
  -- whether contents are kept, as for a connection that runs
  pub keeps : Bool
  -- what each channel awaits, by channel number: a method, or more of a content that is begun
  pub contents : List Awaited
  -- the bytes that were fed and are not read yet
  pub unread : List ℕ
  -- how many more bytes can be fed without an allocation
  pub room : ℕ
  -- the caches of names and publishes
  pub learned : Learned
  -- the fault that ended the stream, once it has been returned
  pub fault : Option ℕ

-- the stream of the definitions with these contents and these unread bytes
abbrev pub stream : Bool → ℕ → Bool → List Awaited → List ℕ → Stream
stream is_new max keeps contents unread = record { is_new = is_new; max = max; keeps = keeps; pending = pending_at contents; unread = unread }

-- the stream of the definitions that a `Stream` represents
abbrev pub stream_of : Held → Stream
stream_of held = stream held.is_new held.max held.keeps held.contents held.unread
