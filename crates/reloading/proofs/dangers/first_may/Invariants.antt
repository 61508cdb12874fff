use Rattle.reloading.proofs.Names.{NoneMay}
use Rattle.reloading.proofs.dangers.first_may.Given as goal

abbrev pub invariant-loop-at : goal.invariant-loop-at
invariant-loop-at l = NoneMay l.topology l.guarantees l.at l.queue
