use Rattle.exchange_graph.proofs.slots.found.Goals as goal

pub returns-in-Some-clause-route : goal.returns-in-Some-clause-route
returns-in-Some-clause-route c = rw (← c.as_bytes.ensures, ← c.as_bytes-2.ensures) (c.in-Some.ensures c.args.topology.now c.requires)
