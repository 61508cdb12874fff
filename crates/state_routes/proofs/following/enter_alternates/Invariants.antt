use Rattle.state_routes.proofs.Names.{take, open_alternates, Enters}
use Rattle.state_routes.proofs.following.enter_alternates.Given as goal

abbrev pub invariant-loop-link : goal.invariant-loop-link
invariant-loop-link l = Enters (open_alternates l.mode l.gates (take l.link-index l.alternates) l.accepted) l.initial.marks l.initial.rest.items l.marks l.rest.items
