use Rattle.queue.proofs.Names.{◌∙◌, ◌<◌, ◌+◌, length, ap, sym, arith, survived_now, changed, Slot}
use Rattle.queue.proofs.Stood.{slot_next}
use Rattle.queue.proofs.slots.mark_reloaded_in.Goals as goal

pub loop-slot-preserved : goal.loop-slot-preserved
loop-slot-preserved c =
    let same = c.loop-slot.auto.slots in
    let within : c.loop-slot.slot-index < length c.loop-slot.slots = omega arith in
    slot_next survived_now c.loop-slot.slots c.args.slots.now c.loop-slot.slot-index (c.loop-slot.slot-index + 1) _ c.slot-item.result
    (omega arith) within c.slot-item.is c.loop-slot.invariant (c.mark_survived_here.ensures ∙ ap (λ (s : Slot). changed survived_now s.entry) (sym c.slot-item.is))
