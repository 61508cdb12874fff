use Rattle.channels.proofs.ConnectionsCounting.{all_channels}
use Rattle.channels.proofs.connections.RunningConnections.ghost_channels_are_listed.Goals as goal

pub returns : goal.returns
returns c = rw (← c.self.view_is) (all_channels c.self.inside.connections.entries c.values.ensures.unique)
