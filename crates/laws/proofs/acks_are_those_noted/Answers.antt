use Rattle.laws.proofs.Acks.{run_acks}
use Rattle.laws.proofs.acks_are_those_noted.Goals as goal

pub returns : goal.returns
returns c = run_acks
