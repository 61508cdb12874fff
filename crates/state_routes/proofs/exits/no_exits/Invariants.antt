use Rattle.state_routes.proofs.Names.{AreEmpty}
use Rattle.state_routes.proofs.exits.no_exits.Given as goal

abbrev pub invariant-loop-place : goal.invariant-loop-place
invariant-loop-place l = AreEmpty l.place l.exits.items
