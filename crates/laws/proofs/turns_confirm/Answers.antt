use Rattle.laws.proofs.Whole.{turn_confirms}
use Rattle.laws.proofs.turns_confirm.Goals as goal

pub returns : goal.returns
returns c = turn_confirms
