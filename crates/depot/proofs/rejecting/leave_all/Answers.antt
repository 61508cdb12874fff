use Rattle.depot.proofs.Names.{◌≡◌, ◌∙◌, List, length, waiting, subst, arith, drop_all, all_left, entries_of, Delivery}
use Rattle.depot.proofs.Performed.{left_next}
use Rattle.depot.proofs.Waiting.{nothing, of_next}
use Rattle.depot.proofs.rejecting.leave_all.Goals as goal

pub leave-requires : goal.leave-requires
leave-requires c = of_next (length c.args.queues.now) (length c.loop-given.queues) c.args.gone.now c.loop-given.given-index nothing c.requires c.loop-given.invariant.len (let t = c.loop-given-test.true in omega arith)

pub loop-given-preserved : goal.loop-given-preserved
loop-given-preserved c =
    let inv = c.loop-given.invariant in
    record {
      left =
          left_next c.args.id.connection c.args.id.number c.args.gone.now c.loop-given.given-index nothing (entries_of c.loop-given.queues) (entries_of c.leave.new.queues)
          (let t = c.loop-given-test.true in omega arith) c.leave.ensures.left c.leave.ensures.gone_already
          ∙ inv.left;
      len = c.leave.ensures.len ∙ inv.len;
      room = λ k. c.leave.ensures.room k ∙ inv.room k;
    }

pub returns-clause-left : goal.returns-clause-left
returns-clause-left c =
    let past = c.loop-given-test.false in
    subst (λ (ds : List Delivery). all_left c.args.id.connection c.args.id.number (waiting ds) (entries_of c.loop-given.queues) ≡ all_left c.args.id.connection c.args.id.number (waiting c.args.gone.now) (entries_of c.args.queues.now))
    (drop_all c.loop-given.given-index c.args.gone.now (omega arith)) c.loop-given.invariant.left
