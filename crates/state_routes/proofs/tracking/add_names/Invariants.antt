use Rattle.state_routes.proofs.Names.{◌≡◌, drop, names_onto}
use Rattle.state_routes.proofs.tracking.add_names.Given as goal

abbrev pub invariant-loop-queue : goal.invariant-loop-queue
invariant-loop-queue l = names_onto l.list (drop l.queue-index l.queues) ≡ names_onto l.fn.list l.queues
