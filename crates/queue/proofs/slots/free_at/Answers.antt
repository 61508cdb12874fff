use Rattle.queue.proofs.Names.{rules, None, freed_now, changed}
use Rattle.queue.proofs.Slotted.{contents-written}
use Rattle.queue.proofs.slots.free_at.Goals as goal

pub returns-clause-contents : goal.returns-clause-contents
returns-clause-contents c = contents-written c.args.slots.now.items c.args.index c.index_mut.result.now _ None (changed freed_now) (search rules) (search rules) c.free_here.ensures
