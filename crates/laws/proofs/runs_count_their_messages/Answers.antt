use Rattle.laws.proofs.Balance.{run_counts}
use Rattle.laws.proofs.runs_count_their_messages.Goals as goal

pub returns : goal.returns
returns c = run_counts
