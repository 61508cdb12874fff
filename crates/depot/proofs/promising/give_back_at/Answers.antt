use Rattle.depot.proofs.Names.{◌∙◌, ◌≤◌, ap, arith, Line, no_line}
use Rattle.depot.proofs.Changes.{same_write}
use Rattle.depot.proofs.Rooms.{room_here, write_each}
use Rattle.depot.proofs.promising.give_back_at.Goals as goal

pub returns-clause-same : goal.returns-clause-same
returns-clause-same c = same_write c.args.queues.now c.args.place c.give_back.new.self no_line (c.give_back.ensures.entries ∙ ap (λ (l : Line). l.entries) c.queue_mut.ensures.value)

pub returns-clause-gains : goal.returns-clause-gains
returns-clause-gains c =
    let none = c.give_back.ensures.room in
    write_each (λ some was now. now ≤ was) c.args.queues.now c.args.place c.queue_mut.result.now c.give_back.new.self c.requires c.queue_mut.ensures.value (omega (arith, none)) (λ n. omega arith)

pub returns-clause-emptied : goal.returns-clause-emptied
returns-clause-emptied c = room_here c.args.queues.now c.args.place c.give_back.new.self c.requires ∙ c.give_back.ensures.room
