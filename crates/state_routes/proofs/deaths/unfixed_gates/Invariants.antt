use Rattle.state_routes.proofs.Names.{[], IsUnfixedEnd}
use Rattle.state_routes.proofs.DeadLetters.{AreEnteredFrom}
use Rattle.state_routes.proofs.deaths.unfixed_gates.Given as goal

abbrev pub invariant-loop-at : goal.invariant-loop-at
invariant-loop-at l = AreEnteredFrom l.topology [] (IsUnfixedEnd l.topology) l.queues l.at l.gates.items
