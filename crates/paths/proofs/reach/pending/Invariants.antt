use Rattle.paths.proofs.Chains.{NoneBefore}
use Rattle.paths.proofs.reach.pending.Given as goal

abbrev pub invariant-loop-link : goal.invariant-loop-link
invariant-loop-link l = NoneBefore l.links l.marks l.link-index
