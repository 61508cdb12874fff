use Rattle.reloading.proofs.Names.{arith}
use Rattle.reloading.proofs.First.{there_at}
use Rattle.reloading.proofs.Narrowed.{forbidding_more, forbidding_none}
use Rattle.reloading.proofs.dangers.all_forbidding.Goals as goal

pub loop-at-init : goal.loop-at-init
loop-at-init c = rw (c.new-found.ensures.items) (forbidding_none c.args.topology.now c.args.guarantees.now)

pub loop-at-preserved : goal.loop-at-preserved
loop-at-preserved c =
    rw c.in_ok-push.ensures.items
    (forbidding_more c.args.topology.now c.args.guarantees.now c.loop-at.at c.index-guarantees-at.result c.loop-at.found.items c.in_ok-forbidding.field-0
    (there_at c.args.guarantees.now c.loop-at.at c.index-guarantees-at.result (omega arith) c.index-guarantees-at.is) c.loop-at.invariant c.in_ok-forbidding.ensures)
