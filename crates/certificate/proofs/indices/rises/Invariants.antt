use Rattle.certificate.proofs.Names.{◌≡◌, drop, rises}
use Rattle.certificate.proofs.indices.rises.Given as goal

abbrev pub invariant-loop-at : goal.invariant-loop-at
invariant-loop-at l = rises (drop l.at l.numbers) ≡ rises l.numbers
