use Rattle.reloading.proofs.Names.{length, queue_names, ReportsBelow}
use Rattle.reloading.proofs.Narrowed.{QueuesSoFar}
use Rattle.reloading.proofs.breaches.first_of_queues.Given as goal

abbrev pub invariant-loop-place : goal.invariant-loop-place
invariant-loop-place g l = ReportsBelow (QueuesSoFar l.topology l.guarantees (queue_names l.old.queues) (g.S.LiveQueues.entries l.live) l.place) l.guarantees (length l.guarantees) l.found
