use Rattle.certificate.proofs.Names.{arith}
use Rattle.certificate.proofs.Certifying.{one_certified, refused_at, certified_all}
use Rattle.certificate.proofs.certified.certified_by.Goals as goal

pub returns-in-Err : goal.returns-in-Err
returns-in-Err c = refused_at c.args.topology.now c.args.guarantees.now c.args.certificates.now c.loop-place.place c.index-guarantees-place.result c.in-Err.fault c.loop-place-test.true c.index-guarantees-place.is c.loop-place.invariant c.in-Err.ensures

pub loop-place-preserved : goal.loop-place-preserved
loop-place-preserved c = one_certified c.args.topology.now c.args.guarantees.now c.args.certificates.now c.loop-place.place c.index-guarantees-place.result c.index-guarantees-place.is c.loop-place.invariant c.in-Ok.ensures

pub returns : goal.returns
returns c = certified_all c.args.topology.now c.args.guarantees.now c.args.certificates.now c.loop-place.place (omega arith) (omega arith) c.loop-place.invariant
