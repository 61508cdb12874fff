-- What a channel has begun and not completed, in the terms of the stream's definitions.
use Rattle.std.specs.Prelude.{◌≤◌, ℕ, List, length, slice_index_or, ⊤}
use Rattle.model.specs.Grammar.{IsMethod}
use Rattle.model.specs.Headers.{AreProperties, header_bytes}
use Rattle.model.specs.Commands
use Rattle.model.specs.Commands.{Wants_header, Wants_body, most_body, most_header}
use Rattle.model.specs.declared.contents.Fields.{Fields as Properties}
use Rattle.model.specs.declared.methods.Publish.{Publish}
use Rattle.model.specs.declared.methods.Method.TheVariants.{BasicPublish}
use Rattle.assembly.specs.Coming.{GrowsAsItComes}
use Rattle.assembly.specs.declared.contents.Awaited.{Awaited}
use Rattle.assembly.specs.declared.contents.Awaited.TheVariants.{Nothing, WantsHeader, WantsBody, Drops}

-- the state of a channel as the definitions name it
abbrev pub pending_of : Awaited → Commands.Pending
pending_of Nothing = Commands.Nothing
pending_of (WantsHeader publish) = Wants_header publish
pending_of (WantsBody g) = Wants_body g.publish g.properties g.size g.body.bytes
pending_of (Drops d) = Commands.Drops d.size d.count

-- a publish whose body of `size` bytes is coming: method and properties can be encoded, and the content is not too large
pub record IsPublishBegun (publish : Publish) (properties : Properties) (size : ℕ) : Type 0 where
  pub method : IsMethod (BasicPublish publish)
  pub spelled : AreProperties properties
  pub body : size ≤ most_body
  pub header : length (header_bytes size properties) ≤ most_header

-- what a channel has begun can be encoded again, its body's storage is at most twice what has come, and no more was dropped than was declared
abbrev pub IsSpelledSoFar : Awaited → Type 0
IsSpelledSoFar Nothing = ⊤
IsSpelledSoFar (WantsHeader publish) = IsMethod (BasicPublish publish)
IsSpelledSoFar (WantsBody g) = IsPublishBegun g.publish g.properties g.size × GrowsAsItComes g.body
IsSpelledSoFar (Drops d) = d.count ≤ d.size

-- a publish was read, and its header is awaited
abbrev pub HasPublish : Awaited → Type 0
HasPublish Nothing = ⊥
HasPublish (WantsHeader publish) = ⊤
HasPublish (WantsBody g) = ⊥
HasPublish (Drops d) = ⊥

-- a body is being gathered
abbrev pub IsGathered : Awaited → Type 0
IsGathered Nothing = ⊥
IsGathered (WantsHeader publish) = ⊥
IsGathered (WantsBody g) = ⊤
IsGathered (Drops d) = ⊥

-- a body is being dropped
abbrev pub IsDropped : Awaited → Type 0
IsDropped Nothing = ⊥
IsDropped (WantsHeader publish) = ⊥
IsDropped (WantsBody g) = ⊥
IsDropped (Drops d) = ⊤

-- what `channel` awaits, in a list by channel number; a method if the list is shorter
abbrev pub content_at : List Awaited → ℕ → Awaited
content_at contents channel = slice_index_or contents channel Nothing

-- the content that each channel has begun and not completed, if any; channels past the end of the list have begun none
abbrev pub pending_at : List Awaited → ℕ → Commands.Pending
pending_at contents channel = pending_of (content_at contents channel)

-- `IsSpelledSoFar` of each channel
abbrev pub AreSpelledSoFar : List Awaited → Type 0
AreSpelledSoFar contents = (channel : ℕ) → IsSpelledSoFar (content_at contents channel)

-- the storage of the body that is coming, if any, is at most twice what has come
abbrev pub GrowsSoFar : Awaited → Type 0
GrowsSoFar Nothing = ⊤
GrowsSoFar (WantsHeader publish) = ⊤
GrowsSoFar (WantsBody g) = GrowsAsItComes g.body
GrowsSoFar (Drops d) = ⊤

-- `GrowsSoFar` of each channel
abbrev pub GrowAsTheyCome : List Awaited → Type 0
GrowAsTheyCome contents = (channel : ℕ) → GrowsSoFar (content_at contents channel)
