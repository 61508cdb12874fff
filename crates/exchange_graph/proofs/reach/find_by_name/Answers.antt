use Rattle.exchange_graph.proofs.Names.{[], List, Bool, false, true, length, replicate, set, refl, sym, ap, subst, ◌∙◌, on_ok_weaker, DeclaredQueue, AreFound}
use Rattle.exchange_graph.proofs.Starting.{default_one, default_none}
use Rattle.exchange_graph.proofs.reach.find_by_name.Goals as goal

pub returns-in-Some : goal.returns-in-Some
returns-in-Some c =
    let t = c.args.topology.now in
    on_ok_weaker c.mark_one.result
    (λ e. subst (λ (bs : List Bool). AreFound t [] c.args.key.now bs) (sym (e ∙ ap (λ (qs : List DeclaredQueue). set (replicate (length qs) false) c.in-Some.place true) c.queues.ensures))
    (default_one t c.args.key.now (length t.queues) c.in-Some.place refl c.ghost_is_well_formed.ensures c.in-Some.ensures.within c.in-Some.ensures.named))
    c.mark_one.ensures

pub returns-in-None : goal.returns-in-None
returns-in-None c =
    let t = c.args.topology.now in
    on_ok_weaker c.unmark.result
    (λ e. subst (λ (bs : List Bool). AreFound t [] c.args.key.now bs) (sym (e ∙ ap (λ (qs : List DeclaredQueue). replicate (length qs) false) c.queues-in-None.ensures))
    (default_none t c.args.key.now (length t.queues) refl c.ghost_is_well_formed.ensures c.in-None.ensures.absent))
    c.unmark.ensures
