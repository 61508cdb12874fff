use Rattle.certificate.proofs.Names.{AreCertifiedBelow}
use Rattle.certificate.proofs.certified.certified_by.Given as goal

abbrev pub invariant-loop-place : goal.invariant-loop-place
invariant-loop-place l = AreCertifiedBelow l.topology l.guarantees l.certificates l.place
