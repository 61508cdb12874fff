use Rattle.laws.proofs.Kept.{run_lasts}
use Rattle.laws.proofs.deliveries_are_accounted_for.Goals as goal

pub returns : goal.returns
returns c = run_lasts
