use Rattle.state_routes.proofs.Names.{◌≡◌, ◌++◌, drop, links_of}
use Rattle.state_routes.proofs.nodes.links_of.Given as goal

abbrev pub invariant-loop-binding : goal.invariant-loop-binding
invariant-loop-binding l = l.links.items ++ links_of l.topology.exchanges l.queue (drop l.binding-index l.bindings) ≡ links_of l.topology.exchanges l.queue l.bindings
