use Rattle.exchange_graph.proofs.Names.{◌<◌, List, Bool, sym, subst, arith, unset}
use Rattle.exchange_graph.proofs.Marking.{unset_fewer}
use Rattle.exchange_graph.proofs.Reached.{expanded, all_met}
use Rattle.exchange_graph.proofs.reach.spread.Goals as goal

pub passes-smaller : goal.passes-smaller
passes-smaller c =
    let r = c.passes.invariant in
    let p = c.in-Some.ensures in
    subst (λ (bs : List Bool). unset bs < unset c.passes.done) (sym c.in_ok-expand.ensures.ticked)
    (unset_fewer c.passes.done c.in-Some.place (omega (arith, p.0, r.room.exchanges, r.done_room)) p.2)

pub passes-preserved : goal.passes-preserved
passes-preserved c =
    expanded c.args.topology.now c.args.start.now c.args.key.now c.in-Some.place c.passes.seen c.passes.found c.passes.done _ _ _ c.in-Some.ensures.1 c.passes.invariant c.in_ok-expand.ensures

pub returns : goal.returns
returns c =
    all_met c.args.topology.now c.args.start.now c.args.key.now c.passes.seen c.passes.found c.passes.done c.ghost_is_well_formed.ensures c.passes.invariant c.in_default.ensures
