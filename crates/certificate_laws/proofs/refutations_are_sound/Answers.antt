use Rattle.certificate_laws.proofs.Refutations.{refutation_sound}
use Rattle.certificate_laws.proofs.refutations_are_sound.Goals as goal

pub returns : goal.returns
returns c = refutation_sound
