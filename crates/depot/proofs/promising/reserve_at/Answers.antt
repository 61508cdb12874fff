use Rattle.depot.proofs.Names.{◌≡◌, ◌∙◌, ◌+◌, ◌≤◌, ap, arith, Line, no_line}
use Rattle.depot.proofs.Changes.{same_write}
use Rattle.depot.proofs.Rejected.{on_ok}
use Rattle.depot.proofs.Rooms.{one_more, write_each}
use Rattle.depot.proofs.promising.reserve_at.Goals as goal

pub returns-clause-same : goal.returns-clause-same
returns-clause-same c = same_write c.args.queues.now c.args.place c.reserve_one.new.queue no_line (c.reserve_one.ensures.entries ∙ ap (λ (l : Line). l.entries) c.queue_mut.ensures.value)

pub returns-clause-room : goal.returns-clause-room
returns-clause-room c =
    on_ok c.reserve_one.result _ _ (λ more. write_each (λ some was now. now ≡ was + some) c.args.queues.now c.args.place c.queue_mut.result.now c.reserve_one.new.queue c.requires
    c.queue_mut.ensures.value more (λ n. omega arith)) c.reserve_one.ensures.room

pub returns-clause-few : goal.returns-clause-few
returns-clause-few c =
    write_each (λ some was now. now ≤ was + some) c.args.queues.now c.args.place c.queue_mut.result.now c.reserve_one.new.queue c.requires c.queue_mut.ensures.value
    (one_more c.reserve_one.result c.reserve_one.new.queue.room c.queue_mut.result.now.room c.reserve_one.ensures.room c.reserve_one.ensures.same) (λ n. omega arith)
