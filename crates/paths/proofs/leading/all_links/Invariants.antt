use Rattle.paths.proofs.Names.{AreLinked}
use Rattle.paths.proofs.leading.all_links.Given as goal

abbrev pub invariant-loop-at : goal.invariant-loop-at
invariant-loop-at l = AreLinked l.topology l.queue l.links.items l.at
