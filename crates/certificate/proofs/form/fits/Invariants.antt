use Rattle.certificate.proofs.Forming.{FitsFrom}
use Rattle.certificate.proofs.form.fits.Given as goal

abbrev pub invariant-loop-at : goal.invariant-loop-at
invariant-loop-at l = FitsFrom l.patterns l.state l.at
