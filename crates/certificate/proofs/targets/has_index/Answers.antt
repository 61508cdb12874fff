use Rattle.certificate.proofs.Routed.{any_index}
use Rattle.certificate.proofs.targets.has_index.Goals as goal

pub returns : goal.returns
returns c = rw c.any_index.ensures (any_index c.args.index c.args.indices.now)
