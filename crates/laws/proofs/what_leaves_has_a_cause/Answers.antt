use Rattle.laws.proofs.Never.{run_causes}
use Rattle.laws.proofs.what_leaves_has_a_cause.Goals as goal

pub returns : goal.returns
returns c = run_causes
