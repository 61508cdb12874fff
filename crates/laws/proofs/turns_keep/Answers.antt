use Rattle.laws.proofs.Whole.{turn_keeps}
use Rattle.laws.proofs.turns_keep.Goals as goal

pub returns : goal.returns
returns c = turn_keeps
