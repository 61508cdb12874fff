-- Guarantees whose pattern has no wildcard.
use Rattle.std.specs.Prelude.{◌≡◌, map}
use Rattle.model.specs.Words.{Text, words, tokens}
use Rattle.model.specs.Topology.{Topology}
use Rattle.model.specs.Guarantee.{Guarantee, Keeps, Holds}
use Rattle.model.specs.declared.texts.Token.TheVariants.{Word}

-- The pattern has no wildcard.
abbrev pub IsWordsAlone : Text → Type 0
IsWordsAlone pattern = tokens (words pattern) ≡ map Word (words pattern)

-- A guarantee whose pattern has no wildcard holds if its promise is kept for the pattern as a key.
abbrev pub SoundForWords : Topology → Guarantee → Type 0
SoundForWords t g = IsWordsAlone g.pattern → Keeps g.mode t g.exchange g.pattern g.queue → Holds t g
