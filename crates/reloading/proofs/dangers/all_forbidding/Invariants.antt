use Rattle.reloading.proofs.Names.{AreForbidding}
use Rattle.reloading.proofs.dangers.all_forbidding.Given as goal

abbrev pub invariant-loop-at : goal.invariant-loop-at
invariant-loop-at l = AreForbidding l.topology l.guarantees l.at l.found.items
