use Rattle.reloading.proofs.Names.{queue_names, ReportsNoneBelow, ReportsQueue}
use Rattle.reloading.proofs.orphaned.first_orphaned.Given as goal

abbrev pub invariant-loop-place : goal.invariant-loop-place
invariant-loop-place g l = ReportsNoneBelow (ReportsQueue l.topology (g.S.LiveQueues.entries l.live) (g.S.LiveQueues.consumed l.live)) (queue_names l.old.queues) l.place
