use Rattle.laws.proofs.Named.{stay_named}
use Rattle.laws.proofs.consumers_stay_named.Goals as goal

pub returns : goal.returns
returns c = stay_named
