use Rattle.laws.proofs.Balance.{run_stays}
use Rattle.laws.proofs.runs_balance_event_by_event.Goals as goal

pub returns : goal.returns
returns c = run_stays
