use Rattle.laws.proofs.Never.{run_allowed_in}
use Rattle.laws.proofs.forbidden_queues_are_not_entered.Goals as goal

pub returns : goal.returns
returns c = run_allowed_in
