use Rattle.queue.proofs.Names.{rules, None, held_as, changed}
use Rattle.queue.proofs.Slotted.{contents-written}
use Rattle.queue.proofs.slots.hold_at.Goals as goal

pub returns-clause-contents : goal.returns-clause-contents
returns-clause-contents c = contents-written c.args.slots.now.items c.args.index c.index_mut.result.now _ None (changed (held_as c.args.holder)) (search rules) (search rules) c.hold_here.ensures
