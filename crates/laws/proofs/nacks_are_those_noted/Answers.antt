use Rattle.laws.proofs.Nacks.{run_nacks}
use Rattle.laws.proofs.nacks_are_those_noted.Goals as goal

pub returns : goal.returns
returns c = run_nacks
