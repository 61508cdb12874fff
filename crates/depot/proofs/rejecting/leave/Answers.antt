use Rattle.depot.proofs.Names.{◌∙◌, ap, Line}
use Rattle.depot.proofs.Changes.{left_write}
use Rattle.depot.proofs.Rooms.{same_room}
use Rattle.depot.proofs.rejecting.leave.Goals as goal

pub returns-then-is_waiting-clause-left : goal.returns-then-is_waiting-clause-left
returns-then-is_waiting-clause-left c = λ waits.
    left_write c.args.id.connection c.args.id.number c.args.given.now c.holder-holder.result c.args.queues.now c.queue_mut.result.now c.remove.new.self
    (c.requires waits) c.queue_mut.ensures.value c.holder-holder.ensures c.remove.ensures.entries

pub returns-then-is_waiting-clause-room : goal.returns-then-is_waiting-clause-room
returns-then-is_waiting-clause-room c = same_room c.args.queues.now c.args.given.now.queue c.remove.new.self (c.remove.ensures.room ∙ ap (λ (l : Line). l.room) c.queue_mut.ensures.value)
