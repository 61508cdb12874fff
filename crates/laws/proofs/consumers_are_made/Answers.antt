use Rattle.laws.proofs.Made.{are_made}
use Rattle.laws.proofs.consumers_are_made.Goals as goal

pub returns : goal.returns
returns c = are_made
