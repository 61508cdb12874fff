use Rattle.exchange_graph.proofs.Names.{List, Bool, false, length, replicate, refl, sym, ap, subst, ◌∙◌, on_ok_weaker, Exchange, AreSeen}
use Rattle.exchange_graph.proofs.Starting.{nothing_seen}
use Rattle.exchange_graph.proofs.reach.see.Goals as goal

pub returns-in-None : goal.returns-in-None
returns-in-None c =
    let t = c.args.topology.now in
    on_ok_weaker c.unmark.result
    (λ e. subst (λ (bs : List Bool). AreSeen t c.args.exchange.now c.args.key.now bs) (sym (e ∙ ap (λ (xs : List Exchange). replicate (length xs) false) c.exchanges.ensures))
    (nothing_seen t c.args.exchange.now c.args.key.now (length t.exchanges) refl c.in-None.ensures.absent))
    c.unmark.ensures
