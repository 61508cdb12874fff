use Rattle.exchange_graph.proofs.Names.{length, refl}
use Rattle.exchange_graph.proofs.Starting.{begins}
use Rattle.exchange_graph.proofs.reach.meet_from.Goals as goal

pub spread-requires : goal.spread-requires
spread-requires c =
    let t = c.args.topology.now in
    rw (c.as_mut_slice.ensures.value, c.as_mut_slice-2.ensures.value, c.as_mut_slice-3.ensures.value, c.in_ok-mark_one.ensures, c.in_ok-unmark.ensures, c.in_ok-unmark-2.ensures, c.exchanges.ensures, c.exchanges-2.ensures, c.queues.ensures)
    (begins t c.args.exchange.now c.args.key.now c.args.place (length t.exchanges) (length t.queues) refl refl c.requires.within c.requires.named)
