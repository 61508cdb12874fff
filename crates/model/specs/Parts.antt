-- The rest of a text after its first part is split off (own).
use Rattle.std.specs.Prelude.{ℕ, List, [], Option, Some, None}
use Rattle.model.specs.Words.{Text, parted}

-- The parts of the rest of a text; no parts if there is no rest.
abbrev pub parts_left : ℕ → Option Text → List Text
parts_left separator None = []
parts_left separator (Some rest) = parted separator rest
