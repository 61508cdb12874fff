use Rattle.paths.proofs.Names.{AreFronts}
use Rattle.paths.proofs.deaths.all_fronts.Given as goal

abbrev pub invariant-loop-at : goal.invariant-loop-at
invariant-loop-at l = AreFronts l.topology l.at l.fronts.items
