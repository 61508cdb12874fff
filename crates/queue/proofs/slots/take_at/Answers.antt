use Rattle.queue.proofs.Names.{rules, None}
use Rattle.queue.proofs.Slotted.{contents-written}
use Rattle.queue.proofs.slots.take_at.Goals as goal

pub returns-clause-contents : goal.returns-clause-contents
returns-clause-contents c = contents-written c.args.slots.now.items c.args.index c.index_mut.result.now _ None ((λ _. None)) (search rules) (search rules) c.take.ensures.after
