use Rattle.depot.proofs.Names.{queue_names}
use Rattle.depot.proofs.Moved.{AreMovedBelow}
use Rattle.depot.proofs.moving.indices_in.Given as goal

-- those before the index have their places
abbrev pub invariant-loop-queue : goal.invariant-loop-queue
invariant-loop-queue l = AreMovedBelow (queue_names l.old.queues) (queue_names l.new.queues) l.places.items l.queue-index
