use Rattle.reloading.proofs.Names.{queue_names}
use Rattle.reloading.proofs.Narrowed.{all_told}
use Rattle.reloading.proofs.breaches.first_breach.Goals as goal

pub returns-clause-reported : goal.returns-clause-reported
returns-clause-reported g c =
    rw c.obstacle_of.ensures (all_told c.args.topology.now c.args.guarantees.now (queue_names c.args.old.now.queues) (g.S.LiveQueues.entries c.args.live.now) c.in_ok-found.found c.in_ok-found.ensures)
