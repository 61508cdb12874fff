use Rattle.state_routes.proofs.Names.{◌≡◌, ◌++◌, drop, entries}
use Rattle.state_routes.proofs.deaths.add_entries.Given as goal

abbrev pub invariant-loop-binding : goal.invariant-loop-binding
invariant-loop-binding l = l.gates.items ++ entries l.topology.exchanges l.patterns l.name l.to (drop l.binding-index l.bindings) ≡ l.fn.gates.items ++ entries l.topology.exchanges l.patterns l.name l.to l.bindings
