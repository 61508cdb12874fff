-- The caches of a stream.
use Rattle.std.specs.Prelude.{◌≤◌, ℕ, List, Option, Some, None, Ok, All, length, ⊤}
use Rattle.model.specs.Grammar.{IsMethod, SaysMethod}
use Rattle.model.specs.Words.{Text}
use Rattle.model.specs.declared.methods.Publish.{Publish}
use Rattle.model.specs.declared.methods.Method.TheVariants.{BasicPublish}
use Rattle.assembly.specs.declared.names.Known.{Known}

-- the payload encodes the publish
pub record SpellsPublish (payload : List ℕ) (publish : Publish) : Type 0 where
  pub fits : IsMethod (BasicPublish publish)
  pub says : SaysMethod payload (Ok (BasicPublish publish))

-- a cached publish is what its payload encodes
abbrev pub IsKnownRight : Option Known → Type 0
IsKnownRight None = ⊤
IsKnownRight (Some known) = SpellsPublish known.payload.items known.publish

-- every cached publish is what its payload encodes
abbrev pub AreRight : List (Option Known) → Type 0
AreRight slots = All IsKnownRight slots

-- the caches of a stream
pub record Learned : Type 0 where
  -- names of exchanges and routing keys, each in its slot
  pub names : List Text
  -- publishes with the payloads that encode them, each in its slot
  pub publishes : List (Option Known)

-- at most 64 names and 32 publishes are cached
pub record AreFew (learned : Learned) : Type 0 where
  pub names : length learned.names ≤ 64
  pub publishes : length learned.publishes ≤ 32
