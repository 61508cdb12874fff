use Rattle.laws.proofs.Named.{are_addressed}
use Rattle.laws.proofs.deliveries_are_addressed.Goals as goal

pub returns : goal.returns
returns c = are_addressed
