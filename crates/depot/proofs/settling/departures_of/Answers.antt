use Rattle.depot.proofs.Names.{length, refl, arith}
use Rattle.depot.proofs.Waiting.{nothing, of_next}
use Rattle.depot.proofs.settling.departures_of.Goals as goal

pub add_departure-requires-clause-within : goal.add_departure-requires-clause-within
add_departure-requires-clause-within c = of_next _ (length c.args.topology.now.queues) c.args.gone.now c.loop-given.given-index nothing c.requires refl (let t = c.loop-given-test.true in omega arith)
