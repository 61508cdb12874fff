use Rattle.paths.proofs.Leads.{linked_none, linked_more}
use Rattle.paths.proofs.leading.all_links.Goals as goal

pub loop-at-init : goal.loop-at-init
loop-at-init c = rw (c.new-links.ensures.items) (linked_none c.args.topology.now c.args.queue.now)

pub loop-at-preserved : goal.loop-at-preserved
loop-at-preserved c = linked_more c.args.topology.now c.args.queue.now c.loop-at.at _ _ c.loop-at.invariant c.in_ok-link_queue.ensures
