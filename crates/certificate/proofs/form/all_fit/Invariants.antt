use Rattle.certificate.proofs.Forming.{AllFitFrom}
use Rattle.certificate.proofs.form.all_fit.Given as goal

abbrev pub invariant-loop-state : goal.invariant-loop-state
invariant-loop-state l = AllFitFrom l.patterns l.states l.state-index
