-- What a refutation needs before routes decide whether it refutes (own).
use Rattle.std.specs.Prelude.{◌≡◌, ◌<◌, ◌≤◌, List, [], length}
use Rattle.std.specs.List.{AllByRecursion}
use Rattle.model.specs.Words.{Text}
use Rattle.model.specs.Guarantee.{Guarantee}
use Rattle.model.specs.Refutations.{Refutation}
use Rattle.model.specs.declared.topologies.Mode.{Mode}
use Rattle.model.specs.declared.topologies.Mode.TheVariants.{Reaches, Never}

-- the path is one for a refutation of a guarantee of this mode: empty for `Reaches`, any for `Never`
abbrev pub HasItsPath : Mode → List Text → Type 0
HasItsPath Reaches path = path ≡ []
HasItsPath Never path = Unit {0}

-- a key that can be sent: at most 255 bytes
abbrev pub IsSendable : Text → Type 0
IsSendable key = AllByRecursion (λ b. b < 256) key × (length key ≤ 255)

-- the key can be sent, and the path is empty if the guarantee is a `reaches`
pub record MayRefute (g : Guarantee) (r : Refutation) : Type 0 where
  pub key : IsSendable r.key
  pub path : HasItsPath g.mode r.path
