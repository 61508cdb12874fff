use Rattle.reloading.proofs.Names.{arith, Guarantee}
use Rattle.reloading.specs.Forbidding.{Spares}
use Rattle.reloading.proofs.First.{there_at}
use Rattle.reloading.proofs.Narrowed.{none_next}
use Rattle.reloading.proofs.dangers.some_forbid_to.Goals as goal

pub loop-at-preserved : goal.loop-at-preserved
loop-at-preserved c =
    let b = c.requires in
    none_next c.args.guarantees.now (λ (z : Guarantee). Spares z c.args.message.now) c.loop-at.at c.index-guarantees-at.result
    (there_at c.args.guarantees.now c.loop-at.at c.index-guarantees-at.result (omega (arith, b)) c.index-guarantees-at.is) c.loop-at.invariant (c.in_ok-forbids_to.ensures c.if-branch.false)

pub returns : goal.returns
returns c e i g lt at = c.loop-at.invariant i g (omega (arith, lt)) at
