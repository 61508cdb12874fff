use Rattle.guarantees.proofs.Finding.{found_tells}
use Rattle.guarantees.proofs.reading.has_exchange.Goals as goal

pub returns : goal.returns
returns c = found_tells c.exchange.result c.is_some.result c.args.topology.now.exchanges c.args.name.now c.is_some.ensures c.exchange.ensures
