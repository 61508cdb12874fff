use Rattle.certificate_laws.proofs.Certificates.{letter_of}
use Rattle.certificate_laws.proofs.words_have_letters.Goals as goal

pub returns : goal.returns
returns c = letter_of
