use Rattle.channels.proofs.ConnectionsMoving.{unseen}
use Rattle.channels.proofs.connections.ghost_moves_are_unseen.Goals as goal

pub returns : goal.returns
returns c = unseen
