use Rattle.certificate.proofs.Placing.{below_tells}
use Rattle.certificate.proofs.indices.are_within.Goals as goal

pub returns : goal.returns
returns c = rw c.are_below.ensures (below_tells c.args.indices.now c.args.count)
