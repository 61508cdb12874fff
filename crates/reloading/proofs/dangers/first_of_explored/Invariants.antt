use Rattle.reloading.proofs.Names.{EndangersBelow}
use Rattle.reloading.proofs.dangers.first_of_explored.Given as goal

abbrev pub invariant-loop-at : goal.invariant-loop-at
invariant-loop-at l = EndangersBelow l.topology l.guarantees l.at l.queue l.message
