use Rattle.laws.proofs.Never.{run_letters}
use Rattle.laws.proofs.rejected_messages_go_on.Goals as goal

pub returns : goal.returns
returns c = run_letters
