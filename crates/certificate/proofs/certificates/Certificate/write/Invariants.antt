use Rattle.certificate.proofs.Names.{take}
use Rattle.certificate.specs.Drafts.{IsListed}
use Rattle.certificate.proofs.certificates.Certificate.write.Given as goal

-- the certificates before the index are listed
abbrev pub invariant-loop-certificate : goal.invariant-loop-certificate
invariant-loop-certificate l = IsListed l.text.items (take l.certificate-index l.certificates)
