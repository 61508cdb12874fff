use Rattle.reloading.proofs.Names.{arith, Guarantee, EndangersNone}
use Rattle.reloading.proofs.First.{there_at}
use Rattle.reloading.proofs.Narrowed.{none_next}
use Rattle.reloading.proofs.dangers.first_may.Goals as goal

pub may_endanger-requires-clause-forbidding : goal.may_endanger-requires-clause-forbidding
may_endanger-requires-clause-forbidding c =
    let s = c.requires.forbidding.size in
    let b = c.requires.bound in
    c.requires.forbidding.each c.loop-at.at c.index-guarantees-at.result c.index-forbidding-at.result
    (there_at c.args.guarantees.now c.loop-at.at c.index-guarantees-at.result (omega (arith, b)) c.index-guarantees-at.is)
    (there_at c.args.forbidding.now c.loop-at.at c.index-forbidding-at.result (omega (arith, s, b)) c.index-forbidding-at.is)

pub loop-at-preserved : goal.loop-at-preserved
loop-at-preserved c =
    let b = c.requires.bound in
    none_next c.args.guarantees.now (λ (z : Guarantee). EndangersNone c.args.topology.now z c.args.queue.now) c.loop-at.at c.index-guarantees-at.result
    (there_at c.args.guarantees.now c.loop-at.at c.index-guarantees-at.result (omega (arith, b)) c.index-guarantees-at.is) c.loop-at.invariant (c.may_endanger.ensures c.if-may_endanger.false)
