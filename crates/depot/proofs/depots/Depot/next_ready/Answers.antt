use Rattle.depot.proofs.Signing.{next_told}
use Rattle.depot.proofs.depots.Depot.next_ready.Goals as goal

pub returns : goal.returns
returns c = record {
  reported = next_told c.self.inside.router c.self.inside.queues c.self.inside.published c.args.self.now c.args.from c.next_ready.result c.self.view_is c.self.invariant c.next_ready.ensures;
}
