use Rattle.commands.proofs.Names.{◌∙◌, ap, sym, subst, Bool, None, Text, queue_names, IsIn, Of_channel}
use Rattle.std.proofs.Common.{Some, if◌then◌else◌}
use Rattle.commands.proofs.Judging.{queue_there, queue_absent}
use Rattle.commands.proofs.refusals.check_queue.Goals as goal

pub returns-in-Some-clause-index : goal.returns-in-Some-clause-index
returns-in-Some-clause-index c = record { within = c.in-Some.ensures.within; named = c.in-Some.ensures.named ∙ c.as_bytes.ensures }

pub returns-in-Some-clause-refusal : goal.returns-in-Some-clause-refusal
returns-in-Some-clause-refusal c =
    let at = c.in-Some.ensures in
    sym (ap (λ (x : Bool). if x then None else Some (Of_channel 404)) (queue_there c.args.topology.now.queues c.in-Some.place c.args.name.now at.within (at.named ∙ c.as_bytes.ensures)))

pub returns-in-None-clause-refusal : goal.returns-in-None-clause-refusal
returns-in-None-clause-refusal c =
    let t = c.args.topology.now in
    let absent : IsIn c.args.name.now (queue_names t.queues) → ⊥ = subst (λ (n : Text). IsIn n (queue_names t.queues) → ⊥) c.as_bytes.ensures c.in-None.ensures.absent in
    sym (ap (λ (x : Bool). if x then None else Some (Of_channel 404)) (queue_absent t.queues c.args.name.now absent))
