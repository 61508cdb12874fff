use Rattle.laws.proofs.Once.{run_entered_once}
use Rattle.laws.proofs.acked_publishes_enter_once.Goals as goal

pub returns : goal.returns
returns c = run_entered_once
