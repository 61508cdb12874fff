use Rattle.reloading.proofs.Names.{length, ap, subst, arith, queue_names, InUse, ReportsQueue}
use Rattle.reloading.proofs.First.{all_named, named_at, none_of_all, one_more, told_at}
use Rattle.reloading.proofs.Allocating.{on_err}
use Rattle.reloading.proofs.orphaned.first_orphaned.Goals as goal

pub returns-in_err-first-clause-wants : goal.returns-in_err-first-clause-wants
returns-in_err-first-clause-wants g c =
    let reports = ReportsQueue c.args.topology.now (g.S.LiveQueues.entries c.args.live.now) (g.S.LiveQueues.consumed c.args.live.now) in
    let q = c.queue.result.now.name in
    on_err c.from_residual.result _ (record {
      queue = q;
      first = told_at reports (queue_names c.args.old.now.queues) c.loop-place.place q (InUse q)
          (named_at c.args.old.now.queues c.loop-place.place c.queue.result.now (let n = ap length c.queues-place-end.ensures in omega (arith, n)) c.queue.ensures) c.loop-place.invariant c.in_err-first.ensures.orphaned;
      long = c.in_err-first.ensures.wants;
    })

pub returns-in-Some-clause-reported : goal.returns-in-Some-clause-reported
returns-in-Some-clause-reported g c =
    let reports = ReportsQueue c.args.topology.now (g.S.LiveQueues.entries c.args.live.now) (g.S.LiveQueues.consumed c.args.live.now) in
    told_at reports (queue_names c.args.old.now.queues) c.loop-place.place c.queue.result.now.name c.in-Some.first
    (named_at c.args.old.now.queues c.loop-place.place c.queue.result.now (let n = ap length c.queues-place-end.ensures in omega (arith, n)) c.queue.ensures) c.loop-place.invariant (subst (reports c.loop-place.place c.queue.result.now.name) c.in-Some.is c.in_ok-first.ensures.reported)

pub loop-place-preserved : goal.loop-place-preserved
loop-place-preserved g c =
    let reports = ReportsQueue c.args.topology.now (g.S.LiveQueues.entries c.args.live.now) (g.S.LiveQueues.consumed c.args.live.now) in
    one_more reports (queue_names c.args.old.now.queues) c.loop-place.place c.queue.result.now.name
    (named_at c.args.old.now.queues c.loop-place.place c.queue.result.now (let n = ap length c.queues-place-end.ensures in omega (arith, n)) c.queue.ensures) c.loop-place.invariant (subst (reports c.loop-place.place c.queue.result.now.name) c.in-None.is c.in_ok-first.ensures.reported)

pub returns-clause-reported : goal.returns-clause-reported
returns-clause-reported g c =
    let reports = ReportsQueue c.args.topology.now (g.S.LiveQueues.entries c.args.live.now) (g.S.LiveQueues.consumed c.args.live.now) in
    none_of_all reports (queue_names c.args.old.now.queues) c.loop-place.place (all_named c.args.old.now.queues c.loop-place.place (let n = ap length c.queues-place-end.ensures in omega (arith, n))) c.loop-place.invariant
