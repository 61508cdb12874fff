use Rattle.depot.proofs.Names.{◌∙◌, length, ap, arith, Topology, entries_of, so_far}
use Rattle.depot.proofs.Foreseen.{all_next, extends_then}
use Rattle.depot.proofs.Waiting.{nothing, of_next}
use Rattle.depot.proofs.rejecting.plan_all.Goals as goal

pub plan_one-requires-clause-within : goal.plan_one-requires-clause-within
plan_one-requires-clause-within c =
    of_next _ (length c.loop-given.router.queues) c.args.gone.now c.loop-given.given-index nothing c.requires.within (ap (λ (t : Topology). length t.queues) c.loop-given.invariant.same) (let t = c.loop-given-test.true in omega arith)

pub loop-given-preserved : goal.loop-given-preserved
loop-given-preserved c =
    let inv = c.loop-given.invariant in
    record {
      foreseen =
          all_next c.args.router.now c.loop-given.router c.args.id c.args.gone.now c.loop-given.given-index nothing (entries_of c.args.queues.now) c.args.notes.now.items
          (so_far c.loop-given.plan c.loop-given.notes) (so_far c.plan_one.new.plan c.plan_one.new.notes)
          (let t = c.loop-given-test.true in omega arith) inv.same c.in_ok-plan_one.ensures.foreseen c.in_ok-plan_one.ensures.gone_already inv.foreseen;
      within = c.plan_one.ensures.within inv.within;
      notes = extends_then c.args.notes.now.items c.loop-given.notes.items c.plan_one.new.notes.items inv.notes c.plan_one.ensures.notes;
      same = c.plan_one.ensures.same ∙ inv.same;
    }
