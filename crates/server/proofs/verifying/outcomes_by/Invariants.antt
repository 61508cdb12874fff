use Rattle.server.proofs.Names.{take, EachWith, ReturnsOutcome}
use Rattle.server.proofs.verifying.outcomes_by.Given as goal

abbrev pub invariant-loop-place : goal.invariant-loop-place
invariant-loop-place l = EachWith (ReturnsOutcome l.topology l.certificates) 0 (take l.place l.guarantees) l.outcomes.items
