use Rattle.exchange_graph.proofs.Names.{List, Bool, false, length, replicate, refl, sym, ap, subst, ◌∙◌, on_ok_weaker, DeclaredQueue, AreFound}
use Rattle.exchange_graph.proofs.Starting.{nothing_found, not_empty}
use Rattle.exchange_graph.proofs.reach.find.Goals as goal

pub returns-in-None : goal.returns-in-None
returns-in-None c =
    let t = c.args.topology.now in
    on_ok_weaker c.unmark.result
    (λ e. subst (λ (bs : List Bool). AreFound t c.args.exchange.now c.args.key.now bs) (sym (e ∙ ap (λ (qs : List DeclaredQueue). replicate (length qs) false) c.queues.ensures))
    (nothing_found t c.args.exchange.now c.args.key.now (length t.queues) refl (not_empty c.args.exchange.now c.is_empty.result c.is_empty.ensures c.if-is_empty.false) c.in-None.ensures.absent))
    c.unmark.ensures
