use Rattle.certificate.proofs.Names.{arith}
use Rattle.certificate.proofs.Certifying.{checked_at}
use Rattle.certificate.proofs.certified.check_at.Goals as goal

pub returns : goal.returns
returns c = checked_at c.args.topology.now c.args.guarantee.now c.args.certificates.now c.args.place c.index-certificates-place.result c.check_by.result (omega arith) c.index-certificates-place.is c.check_by.ensures
