use Rattle.channels.proofs.Putting.{puts_written}
use Rattle.channels.proofs.connections.ghost_lent_channels_are_put.Goals as goal

pub returns : goal.returns
returns c = λ connections c h was ch is. puts_written connections c h was ch is
