use Rattle.methods.proofs.Whole
use Rattle.methods.proofs.laws.ghost_one_method.Goals as goal

pub returns : goal.returns
returns c = Whole.one_method
