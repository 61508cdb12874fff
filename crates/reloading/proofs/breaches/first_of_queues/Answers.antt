use Rattle.reloading.proofs.Names.{length, ap, arith, queue_names}
use Rattle.reloading.proofs.First.{all_named, named_at}
use Rattle.reloading.proofs.Narrowed.{QueuesSoFar, bound_within, queues_all, queues_begin, queues_more}
use Rattle.reloading.proofs.breaches.first_of_queues.Goals as goal

pub loop-place-init : goal.loop-place-init
loop-place-init g c = queues_begin c.args.topology.now c.args.guarantees.now (queue_names c.args.old.now.queues) (g.S.LiveQueues.entries c.args.live.now)

pub first_of_queue-requires-clause-bound : goal.first_of_queue-requires-clause-bound
first_of_queue-requires-clause-bound g c =
    rw c.bound_of-bound.ensures
    (bound_within (QueuesSoFar c.args.topology.now c.args.guarantees.now (queue_names c.args.old.now.queues) (g.S.LiveQueues.entries c.args.live.now) c.loop-place.place) c.args.guarantees.now (length c.args.guarantees.now) c.loop-place.found (omega arith) c.loop-place.invariant)

pub loop-place-preserved : goal.loop-place-preserved
loop-place-preserved g c =
    rw c.joined-found.ensures
    (queues_more c.args.topology.now c.args.guarantees.now (queue_names c.args.old.now.queues) (g.S.LiveQueues.entries c.args.live.now) c.loop-place.place c.queue.result.now.name c.loop-place.found c.in_ok-more.more
    (named_at c.args.old.now.queues c.loop-place.place c.queue.result.now (let n = ap length c.queues-place-end.ensures in omega (arith, n)) c.queue.ensures) c.loop-place.invariant
    (rw (← c.bound_of-bound.ensures) c.in_ok-more.ensures))

pub returns : goal.returns
returns g c =
    queues_all c.args.topology.now c.args.guarantees.now (queue_names c.args.old.now.queues) (g.S.LiveQueues.entries c.args.live.now) c.loop-place.place c.loop-place.found
    (all_named c.args.old.now.queues c.loop-place.place (let n = ap length c.queues-place-end.ensures in omega (arith, n))) c.loop-place.invariant
