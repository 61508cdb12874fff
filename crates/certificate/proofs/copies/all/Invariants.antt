use Rattle.certificate.proofs.Names.{◌≡◌, ◌++◌, drop}
use Rattle.certificate.proofs.copies.all.Given as goal

abbrev pub invariant-loop-one : goal.invariant-loop-one
invariant-loop-one g l = l.copies.items ++ drop l.one-index l.those ≡ l.those
