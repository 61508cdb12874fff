use Rattle.state_routes.proofs.Names.{◌≡◌, ◌+◌, length, unset, open_through, Spreads}
use Rattle.state_routes.proofs.following.follow.Given as goal

abbrev pub invariant-places : goal.invariant-places
invariant-places l = record {
  size : length l.marks ≡ length l.exits;
  spread : Spreads (open_through l.mode l.exits l.accepted) l.start l.marks l.rest.items;
}

abbrev pub decreases-places : goal.decreases-places
decreases-places l = unset l.marks + unset l.marks + length l.rest.items
