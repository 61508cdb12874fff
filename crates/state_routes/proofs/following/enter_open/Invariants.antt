use Rattle.state_routes.proofs.Names.{take, open_links, Enters}
use Rattle.state_routes.proofs.following.enter_open.Given as goal

abbrev pub invariant-loop-gate : goal.invariant-loop-gate
invariant-loop-gate l = Enters (open_links l.mode (take l.gate-index l.gates) l.accepted) l.initial.marks l.initial.rest.items l.marks l.rest.items
