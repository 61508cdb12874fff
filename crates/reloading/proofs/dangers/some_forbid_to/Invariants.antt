use Rattle.reloading.specs.Forbidding.{NoneForbidsTo}
use Rattle.reloading.proofs.dangers.some_forbid_to.Given as goal

abbrev pub invariant-loop-at : goal.invariant-loop-at
invariant-loop-at l = NoneForbidsTo l.guarantees l.at l.message
