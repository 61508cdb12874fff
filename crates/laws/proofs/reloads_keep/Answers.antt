use Rattle.laws.proofs.Keeping.{reload_kept}
use Rattle.laws.proofs.reloads_keep.Goals as goal

pub returns : goal.returns
returns c = reload_kept
