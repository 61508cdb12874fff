use Rattle.serving.proofs.Names.{◌≡◌, ◌∙◌, length, arith}
use Rattle.serving.proofs.Loudness.{loud_put}
use Rattle.serving.proofs.slot_marks.SlotMarks.mark.Goals as goal

pub invariant_of-self : goal.invariant_of-self
invariant_of-self c =
    let len : c.len.result ≡ length c.self.inside.marks.items = c.len.ensures ∙ c.self.inside.marks.ok.0 in
    let below = c.if-slot-len.true in
    loud_put c.self.inside.loud c.put.new.set c.self.inside.marks.items c.args.slot c.args.is_marked (omega (arith, below, len)) c.put.ensures.bit c.put.ensures.len c.self.invariant
