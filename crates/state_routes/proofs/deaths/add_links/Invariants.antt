use Rattle.state_routes.proofs.Names.{◌≡◌, ◌++◌, drop, links_in}
use Rattle.state_routes.proofs.deaths.add_links.Given as goal

abbrev pub invariant-loop-gate : goal.invariant-loop-gate
invariant-loop-gate l = l.links.items ++ links_in (drop l.gate-index l.gates) ≡ l.fn.links.items ++ links_in l.gates
