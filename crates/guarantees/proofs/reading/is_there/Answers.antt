use Rattle.guarantees.proofs.Finding.{both_there}
use Rattle.guarantees.proofs.reading.is_there.Goals as goal

pub returns : goal.returns
returns c =
    both_there c.args.topology.now c.args.guarantee.now c.is_exchange-exchange.result c.is_queue-queue.result
    (rw (← c.exchange.ensures, ← c.as_bytes.ensures) c.is_exchange-exchange.ensures) (rw (← c.queue.ensures, ← c.as_bytes-2.ensures) c.is_queue-queue.ensures)
