use Rattle.state_routes.proofs.Names.{IsEnd}
use Rattle.state_routes.proofs.DeadLetters.{AreEnteredFrom}
use Rattle.state_routes.proofs.deaths.death_gates.Given as goal

abbrev pub invariant-loop-at : goal.invariant-loop-at
invariant-loop-at l = AreEnteredFrom l.topology l.patterns (IsEnd l.topology l.queue) l.topology.queues l.at l.gates.items
