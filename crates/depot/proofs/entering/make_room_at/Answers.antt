use Rattle.depot.proofs.Names.{◌∙◌, ◌≤◌, ap, arith, Line, no_line}
use Rattle.depot.proofs.Changes.{same_write}
use Rattle.depot.proofs.Rooms.{write_each}
use Rattle.depot.proofs.entering.make_room_at.Goals as goal

pub returns-clause-same : goal.returns-clause-same
returns-clause-same c = same_write c.args.queues.now c.args.place c.reserve.new.self no_line (c.reserve.ensures.entries ∙ ap (λ (l : Line). l.entries) c.queue_mut.ensures.value)

pub returns-clause-kept : goal.returns-clause-kept
returns-clause-kept c =
    write_each (λ some was now. was ≤ now) c.args.queues.now c.args.place c.queue_mut.result.now c.reserve.new.self c.requires c.queue_mut.ensures.value c.reserve.ensures.kept (λ n. omega arith)
