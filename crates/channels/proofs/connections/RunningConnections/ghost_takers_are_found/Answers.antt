use Rattle.channels.proofs.Taking.{takers_found}
use Rattle.channels.proofs.connections.RunningConnections.ghost_takers_are_found.Goals as goal

pub returns : goal.returns
returns c = rw (← c.self.view_is) (takers_found c.self.inside.connections.entries c.values.ensures.unique)
