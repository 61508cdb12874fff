use Rattle.laws.proofs.Streams.{tuning}
use Rattle.laws.proofs.tuning_does_not_matter.Goals as goal

pub returns : goal.returns
returns c = tuning
