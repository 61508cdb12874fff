use Rattle.queue.proofs.Names.{◌<◌, ◌+◌, length, arith, survived_now}
use Rattle.queue.proofs.Changing.{changed_next}
use Rattle.queue.proofs.lists.mark_reloaded.Goals as goal

pub loop-entry-preserved : goal.loop-entry-preserved
loop-entry-preserved c =
    let same = c.loop-entry.auto.entries in
    let within : c.loop-entry.entry-index < length c.loop-entry.entries = omega arith in
    changed_next survived_now c.loop-entry.entries c.args.entries.now c.loop-entry.entry-index (c.loop-entry.entry-index + 1) c.mark_survived.new.entry c.entry-item.result
    (omega arith) within c.entry-item.is c.loop-entry.invariant c.mark_survived.ensures
