use Rattle.laws.proofs.Balance.{run_balances}
use Rattle.laws.proofs.runs_balance.Goals as goal

pub returns : goal.returns
returns c = run_balances
