use Rattle.laws.proofs.Forms.{messages_come}
use Rattle.laws.proofs.messages_come_as_routed.Goals as goal

pub returns : goal.returns
returns c = messages_come
