use Rattle.serving.proofs.Loudness.{loud_none}
use Rattle.serving.proofs.slot_marks.SlotMarks.all.Goals as goal

pub invariant_of-result : goal.invariant_of-result
invariant_of-result c = loud_none c.in_ok-loud.loud c.in_ok-marks.marks.items c.args.slots c.in_ok-marks.ensures c.in_ok-loud.ensures.none c.in_ok-loud.ensures.room
