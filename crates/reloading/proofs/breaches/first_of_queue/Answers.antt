use Rattle.reloading.proofs.Names.{subst, Text}
use Rattle.exchange_graph.specs.Dying.{EndsHere}
use Rattle.reloading.proofs.Narrowed.{entries_none, nowhere_none}
use Rattle.reloading.proofs.breaches.first_of_queue.Goals as goal

pub returns-in-None : goal.returns-in-None
returns-in-None g c =
    let t = c.args.topology.now in
    let gs = c.args.guarantees.now in
    let ends = subst (λ (z : Text). EndsHere t z) c.as_bytes.ensures c.in-None.ensures in
    entries_none t gs c.args.bound (g.S.LiveQueues.entries c.args.live.now) c.args.place c.args.queue.now (nowhere_none t gs c.args.bound c.args.queue.now ends)
