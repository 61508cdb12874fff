use Rattle.laws.proofs.Safe.{traced_are_safe}
use Rattle.laws.proofs.traced_messages_are_safe.Goals as goal

pub returns : goal.returns
returns c = traced_are_safe
