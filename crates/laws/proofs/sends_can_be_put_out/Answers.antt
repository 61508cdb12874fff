use Rattle.laws.proofs.Sent.{sends_are_own}
use Rattle.laws.proofs.sends_can_be_put_out.Goals as goal

pub returns : goal.returns
returns c = sends_are_own
