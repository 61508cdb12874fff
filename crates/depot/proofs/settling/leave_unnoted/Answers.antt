use Rattle.depot.proofs.Changes.{left_write}
use Rattle.depot.proofs.settling.leave_unnoted.Goals as goal

pub returns-in-Some-clause-entries : goal.returns-in-Some-clause-entries
returns-in-Some-clause-entries c =
    left_write c.args.id.connection c.args.id.number c.args.given.now c.holder-holder.result c.args.queues.now c.queue_mut.result.now c.remove-removed.new.self
    c.requires.within c.queue_mut.ensures.value c.holder-holder.ensures c.remove-removed.ensures.entries

pub returns-in_default-clause-entries : goal.returns-in_default-clause-entries
returns-in_default-clause-entries c =
    left_write c.args.id.connection c.args.id.number c.args.given.now c.holder-holder.result c.args.queues.now c.queue_mut.result.now c.remove-removed.new.self
    c.requires.within c.queue_mut.ensures.value c.holder-holder.ensures c.remove-removed.ensures.entries
