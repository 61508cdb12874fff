use Rattle.state_routes.proofs.Names.{◌≡◌, ◌++◌, drop, binding_gates}
use Rattle.state_routes.proofs.gates.binding_gates.Given as goal

abbrev pub invariant-loop-binding : goal.invariant-loop-binding
invariant-loop-binding l = l.gates.items ++ binding_gates l.topology.exchanges l.queue l.patterns (drop l.binding-index l.bindings) ≡ binding_gates l.topology.exchanges l.queue l.patterns l.bindings
