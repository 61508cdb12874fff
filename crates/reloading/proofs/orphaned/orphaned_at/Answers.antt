use Rattle.reloading.proofs.Names.{◌∙◌, subst, IfOk-weaker, Text, IsIn, queue_names}
use Rattle.reloading.proofs.First.{stranded_not}
use Rattle.reloading.proofs.Judged.{gone_tells}
use Rattle.reloading.proofs.Allocating.{on_err_too}
use Rattle.reloading.proofs.orphaned.orphaned_at.Goals as goal

pub returns-in-Some-clause-reported : goal.returns-in-Some-clause-reported
returns-in-Some-clause-reported g c gone used = stranded_not c.args.topology.now c.in-Some.field-0 c.args.queue.now c.in-Some.ensures.within (c.in-Some.ensures.named ∙ c.as_bytes.ensures) gone

pub returns-in-None-clause-reported : goal.returns-in-None-clause-reported
returns-in-None-clause-reported g c =
    let gone = subst (λ (z : Text). IsIn z (queue_names c.args.topology.now.queues) → ⊥) c.as_bytes.ensures c.in-None.ensures.absent in
    IfOk-weaker c.gone_at.result _ _ (λ o reported. gone_tells c.args.topology.now (g.S.LiveQueues.entries c.args.live.now) (g.S.LiveQueues.consumed c.args.live.now) c.args.place c.args.queue.now o gone reported) c.gone_at.ensures.reported

pub returns-in-None-clause-orphaned : goal.returns-in-None-clause-orphaned
returns-in-None-clause-orphaned g c =
    let gone = subst (λ (z : Text). IsIn z (queue_names c.args.topology.now.queues) → ⊥) c.as_bytes.ensures c.in-None.ensures.absent in
    on_err_too c.gone_at.result _ _ (λ reported. (gone, reported)) c.gone_at.ensures.used
