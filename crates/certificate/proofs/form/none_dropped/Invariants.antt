use Rattle.certificate.proofs.Forming.{NoneDroppedFrom}
use Rattle.certificate.proofs.form.none_dropped.Given as goal

abbrev pub invariant-loop-state : goal.invariant-loop-state
invariant-loop-state l = NoneDroppedFrom l.drops l.states l.state-index
