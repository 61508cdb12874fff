use Rattle.reloading.proofs.Names.{NoneForbids}
use Rattle.reloading.proofs.breaches.some_forbid.Given as goal

abbrev pub invariant-loop-at : goal.invariant-loop-at
invariant-loop-at l = NoneForbids l.guarantees l.at
