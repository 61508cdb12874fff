use Rattle.laws.proofs.Never.{run_allowed}
use Rattle.laws.proofs.no_event_enters_a_forbidden_queue.Goals as goal

pub returns : goal.returns
returns c = run_allowed
