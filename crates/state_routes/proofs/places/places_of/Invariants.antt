use Rattle.state_routes.proofs.Names.{RiseBelow}
use Rattle.state_routes.proofs.places.places_of.Given as goal

abbrev pub invariant-loop-place : goal.invariant-loop-place
invariant-loop-place l = RiseBelow l.place l.places.items
