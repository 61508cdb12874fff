use Rattle.reloading.proofs.Names.{subst, Text, NoneMay}
use Rattle.reloading.proofs.Narrowed.{entries_none}
use Rattle.reloading.proofs.breaches.first_of_dying.Goals as goal

pub returns-in-None : goal.returns-in-None
returns-in-None g c =
    entries_none c.args.topology.now c.args.guarantees.now c.args.bound (g.S.LiveQueues.entries c.args.live.now) c.args.place c.args.queue.now
    (subst (λ (z : Text). NoneMay c.args.topology.now c.args.guarantees.now c.args.bound z) c.as_bytes-name.ensures c.in-None.ensures)
