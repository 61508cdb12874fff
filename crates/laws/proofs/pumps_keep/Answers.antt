use Rattle.laws.proofs.Whole.{pump_keeps}
use Rattle.laws.proofs.pumps_keep.Goals as goal

pub returns : goal.returns
returns c = pump_keeps
