use Rattle.state_routes.proofs.Names.{◌≡◌, ◌+◌, drop, tracked_index}
use Rattle.state_routes.proofs.gates.tracked_index.Given as goal

abbrev pub invariant-loop-pattern : goal.invariant-loop-pattern
invariant-loop-pattern l = (l.place ≡ l.pattern-index) × (l.place + tracked_index (drop l.pattern-index l.patterns) l.kind l.text ≡ tracked_index l.patterns l.kind l.text)
