use Rattle.laws.proofs.Routed.{run_routed}
use Rattle.laws.proofs.publishes_enter_as_routed.Goals as goal

pub returns : goal.returns
returns c = run_routed
