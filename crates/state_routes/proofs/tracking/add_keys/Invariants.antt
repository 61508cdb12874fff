use Rattle.state_routes.proofs.Names.{◌≡◌, drop, keys_onto}
use Rattle.state_routes.proofs.tracking.add_keys.Given as goal

abbrev pub invariant-loop-binding : goal.invariant-loop-binding
invariant-loop-binding l = keys_onto l.list l.kind l.name (drop l.binding-index l.bindings) ≡ keys_onto l.fn.list l.kind l.name l.bindings
