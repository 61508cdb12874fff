use Rattle.certificate.proofs.Placing.{rises_tell}
use Rattle.certificate.proofs.indices.are_rising.Goals as goal

pub returns : goal.returns
returns c = rw c.rises.ensures (rises_tell c.args.numbers.now)
