use Rattle.laws.proofs.Histories.{histories_keep}
use Rattle.laws.proofs.histories_keep.Goals as goal

pub returns : goal.returns
returns c = histories_keep
