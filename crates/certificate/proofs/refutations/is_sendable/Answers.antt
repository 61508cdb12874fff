use Rattle.certificate.proofs.Refuting.{bytes_of, sendable}
use Rattle.certificate.proofs.refutations.is_sendable.Goals as goal

pub returns : goal.returns
returns c = sendable c.args.key.now (bytes_of c.args.key.now c.type_inv.key)
