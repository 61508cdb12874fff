-- How much is left of a text while its parts are taken.
use Rattle.std.proofs.Common.{ℕ, ◌+◌, Option, Some, None, length}
use Rattle.model.specs.Words.{Text}

-- counting one for a text that has no bytes
abbrev pub left : Option Text → ℕ
left None = 0
left (Some rest) = length rest + 1
