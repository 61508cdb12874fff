use Rattle.state_routes.proofs.Leaving.{PutsGates}
use Rattle.state_routes.proofs.exits.put_gates.Given as goal

abbrev pub invariant-loop-gate : goal.invariant-loop-gate
invariant-loop-gate l = PutsGates l.gates l.gate-index l.fn.exits.items l.exits.items
