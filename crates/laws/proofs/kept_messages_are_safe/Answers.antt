use Rattle.laws.proofs.Keeping.{kept_are_safe}
use Rattle.laws.proofs.kept_messages_are_safe.Goals as goal

pub returns : goal.returns
returns c = kept_are_safe
