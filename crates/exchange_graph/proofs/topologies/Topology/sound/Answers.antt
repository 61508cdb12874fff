use Rattle.exchange_graph.proofs.Names.{◌∙◌, ap, sym, exchange_names, queue_names}
use Rattle.exchange_graph.proofs.topologies.Topology.sound.Goals as goal

pub of-requires : goal.of-requires
of-requires c = record {
  each_exchange = c.in_ok-exchange_names.ensures ∙ ap exchange_names (c.as_slice.ensures.value ∙ sym c.as_slice-3.ensures.value);
  each_queue = c.in_ok-queue_names.ensures ∙ ap queue_names (c.as_slice-2.ensures.value ∙ sym c.as_slice-4.ensures.value);
}

pub invariant_of-result : goal.invariant_of-result
invariant_of-result c = record {
  good = c.requires;
  known = rw (c.of.ensures, c.as_slice-3.ensures.value, c.as_slice-4.ensures.value, c.as_slice-5.ensures.value) at c.in_ok-fans.ensures;
  exchanges = rw (c.as_slice.ensures.value) at c.in_ok-exchange_names.ensures;
  queues = rw (c.as_slice-2.ensures.value) at c.in_ok-queue_names.ensures;
}
