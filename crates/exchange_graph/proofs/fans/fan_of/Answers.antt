use Rattle.exchange_graph.proofs.fans.fan_of.Goals as goal

pub invariant_of-result : goal.invariant_of-result
invariant_of-result c = rw (c.as_slice.ensures.value) at c.in_ok-index.ensures.1
