use Rattle.broker.proofs.Waits.{nobody_waits}
use Rattle.broker.proofs.waiting.ghost_nobody_waits.Goals as goal

pub returns : goal.returns
returns c = nobody_waits
