use Rattle.definitions.proofs.Hashing.{AreSoFar}
use Rattle.definitions.proofs.stating.users_of.Given as goal

abbrev pub invariant-loop-entry : goal.invariant-loop-entry
invariant-loop-entry l = AreSoFar l.entries l.entry-index l.made.items
