-- The two forms in which properties are handed on (own).
use Rattle.std.specs.Prelude.{◌≡◌}
use Rattle.model.specs.Headers.{AreProperties}
use Rattle.model.specs.Properties.{properties_bytes}
use Rattle.model.specs.declared.contents.Fields.{Fields as Properties}
use Rattle.model.specs.declared.contents.Form.{Form}
use Rattle.model.specs.declared.contents.Form.TheVariants.{Spelled, Apart}

-- The form holds the properties `p`: as bytes, the flags and values that spell them, or as separate fields.
abbrev pub IsFormOf : Properties → Form → Type 0
IsFormOf p (Spelled bytes) = AreProperties p × (bytes.now ≡ properties_bytes p)
IsFormOf p (Apart fields) = fields.now ≡ p
