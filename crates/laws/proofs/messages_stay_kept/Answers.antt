use Rattle.laws.proofs.Keeping.{stay_kept}
use Rattle.laws.proofs.messages_stay_kept.Goals as goal

pub returns : goal.returns
returns c = stay_kept
