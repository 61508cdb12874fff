use Rattle.queue.proofs.Names.{arith, ap, drop_all, total, ready_size}
use Rattle.queue.proofs.Bytes.{total-ready, total-next}
use Rattle.queue.proofs.lists.ready_bytes.Goals as goal

pub loop-entry-preserved : goal.loop-entry-preserved
loop-entry-preserved c =
    let next = total-next c.args.entries.now c.loop-entry.entry-index c.entry-item.result c.loop-entry-test.true c.entry-item.is in
    let size = c.ready_size.ensures in
    let counted = c.loop-entry.invariant.counted in
    let most = c.loop-entry.invariant.most in
    record { counted = omega arith; most = omega arith }

pub returns : goal.returns
returns c =
    let none = ap (total ready_size) (drop_all c.loop-entry.entry-index c.args.entries.now (omega arith)) in
    let all = total-ready c.args.entries.now in
    let counted = c.loop-entry.invariant.counted in
    omega arith
