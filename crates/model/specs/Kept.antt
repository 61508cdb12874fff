-- The forms in which a content's properties are kept (own).
use Rattle.std.specs.Prelude.{ℕ, List, take}
use Rattle.model.specs.Headers.{no_properties}
use Rattle.model.specs.Properties.{spelled_by, IsSpelling}
use Rattle.model.specs.declared.contents.Fields.{Fields}
use Rattle.model.specs.declared.contents.Kept.{Kept}
use Rattle.model.specs.declared.contents.Kept.TheVariants.{Empty, Small, Larger, Spelled, Apart}

-- The fourteen properties, from whichever form they are kept in.
abbrev pub view_of : Kept → Fields
view_of Empty = no_properties
view_of (Small len block) = spelled_by (take len block.value)
view_of (Larger len block) = spelled_by (take len block.value)
view_of (Spelled block) = spelled_by block.value.items
view_of (Apart block) = block.value

-- If the properties are kept as bytes, the bytes are flags and values that spell properties.
abbrev pub IsKeptText : Kept → Type 0
IsKeptText Empty = Unit {0}
IsKeptText (Small len block) = IsSpelling (take len block.value)
IsKeptText (Larger len block) = IsSpelling (take len block.value)
IsKeptText (Spelled block) = IsSpelling block.value.items
IsKeptText (Apart block) = Unit {0}
