use Rattle.state_routes.proofs.Names.{◌≡◌, ◌++◌, drop, accepted}
use Rattle.state_routes.proofs.routes.accepted.Given as goal

abbrev pub invariant-loop-place : goal.invariant-loop-place
invariant-loop-place l = l.found.items ++ accepted (drop l.place l.letters) (drop l.place l.state) ≡ accepted l.letters l.state
