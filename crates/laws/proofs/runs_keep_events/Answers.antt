use Rattle.laws.proofs.Never.{run_keeps}
use Rattle.laws.proofs.runs_keep_events.Goals as goal

pub returns : goal.returns
returns c = run_keeps
