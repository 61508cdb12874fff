use Rattle.depot.proofs.Names.{◌∙◌, ◌<◌, List, length, get_or, ap, subst, sym, refl, arith, Text, queue_names, DeclaredQueue, IsMoved}
use Rattle.depot.proofs.Moved.{one_moved}
use Rattle.depot.proofs.Planned.{name_there}
use Rattle.depot.proofs.moving.indices_in.Goals as goal

pub loop-queue-preserved : goal.loop-queue-preserved
loop-queue-preserved c =
    let names = queue_names c.args.new.now.queues in
    let qs = c.args.old.now.queues in
    let all = c.queues-queue-items.ensures in
    let n = ap length all in
    let lt : c.loop-queue.queue-index < length qs = omega (arith, n) in
    let at = sym (name_there qs c.loop-queue.queue-index c.queue-item.result lt (c.queue-item.is ∙ ap (λ (z : List DeclaredQueue). get_or z c.loop-queue.queue-index c.queue-item.result) all)) in
    one_moved (queue_names qs) names c.loop-queue.places.items c.push.new.self.items c.loop-queue.queue-index _ c.place_in.result c.queue-item.result.name refl at
    c.in_ok-push.ensures.items (subst (λ (z : Text). IsMoved names z c.place_in.result) c.as_bytes.ensures c.place_in.ensures) c.loop-queue.invariant
