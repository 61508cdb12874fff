use Rattle.laws.proofs.Streams.{cutting}
use Rattle.laws.proofs.cutting_does_not_matter.Goals as goal

pub returns : goal.returns
returns c = cutting
