use Rattle.certificate_laws.proofs.Certificates.{certificate_sound}
use Rattle.certificate_laws.proofs.certificates_are_sound.Goals as goal

pub returns : goal.returns
returns c = certificate_sound
