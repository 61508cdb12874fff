use Rattle.reloading.proofs.Names.{[], subst, IfOk-weaker, Config, queue_names, InUse, ReportsFirst, ReportsQueue}
use Rattle.reloading.specs.Allocating.{explores, copies}
use Rattle.reloading.proofs.Judged.{breach_judges, none_stranded, orphaned_stands}
use Rattle.reloading.proofs.Allocating.{on_err, on_err_too}
use Rattle.reloading.proofs.judging.obstacle.Goals as goal

pub returns-in-Some-clause-reported : goal.returns-in-Some-clause-reported
returns-in-Some-clause-reported g c = λ b users s.
    let entries = g.S.LiveQueues.entries c.args.live.now in
    let consumed = g.S.LiveQueues.consumed c.args.live.now in
    let f : Config = record { topology = c.args.topology.now; guarantees = c.args.guarantees.now; users = users } in
    let reported = subst (ReportsFirst (ReportsQueue c.args.topology.now entries consumed) (queue_names c.args.old.now.queues)) c.in-Some.is c.in_ok-orphaned.ensures.reported in
    orphaned_stands c.args.old.now f entries consumed b s c.in-Some.orphaned reported

pub returns-in-None-clause-reported : goal.returns-in-None-clause-reported
returns-in-None-clause-reported g c = IfOk-weaker c.first_breach.result _ _ (λ o reports b users s.
    let entries = g.S.LiveQueues.entries c.args.live.now in
    let consumed = g.S.LiveQueues.consumed c.args.live.now in
    let f : Config = record { topology = c.args.topology.now; guarantees = c.args.guarantees.now; users = users } in
    let reported = subst (ReportsFirst (ReportsQueue c.args.topology.now entries consumed) (queue_names c.args.old.now.queues)) c.in-None.is c.in_ok-orphaned.ensures.reported in
    breach_judges c.args.old.now f entries consumed b s (none_stranded c.args.old.now f entries consumed b s reported) o reports) c.first_breach.ensures.reported

pub returns-in-None-clause-wants : goal.returns-in-None-clause-wants
returns-in-None-clause-wants g c = on_err_too c.first_breach.result _ _ (λ has b s.
    let entries = g.S.LiveQueues.entries c.args.live.now in
    let consumed = g.S.LiveQueues.consumed c.args.live.now in
    let f : Config = record { topology = c.args.topology.now; guarantees = c.args.guarantees.now; users = [] } in
    let reported = subst (ReportsFirst (ReportsQueue c.args.topology.now entries consumed) (queue_names c.args.old.now.queues)) c.in-None.is c.in_ok-orphaned.ensures.reported in
    explores (none_stranded c.args.old.now f entries consumed b s reported) has) c.first_breach.ensures.never

pub returns-in_err-orphaned-clause-wants : goal.returns-in_err-orphaned-clause-wants
returns-in_err-orphaned-clause-wants g c = on_err c.from_residual.result _ (λ b s.
    let f : Config = record { topology = c.args.topology.now; guarantees = c.args.guarantees.now; users = [] } in
    let w = c.in_err-orphaned.ensures.wants in
    copies w.queue (orphaned_stands c.args.old.now f (g.S.LiveQueues.entries c.args.live.now) (g.S.LiveQueues.consumed c.args.live.now) b s (InUse w.queue) w.first) w.long)
