use Rattle.serving.proofs.Names.{◌≡◌, ◌∙◌, List, Bool, true, false, length, sym, ap, subst, inl, inr, arith, cases_lt, slice_index_or, get_or_past, length-replicate, length-set}
use Rattle.serving.proofs.Loudness.{unmarked_more}
use Rattle.serving.proofs.slot_marks.SlotMarks.none.Goals as goal

pub loop-slot-init : goal.loop-slot-init
loop-slot-init c = record {
  length = ap length c.in_ok-marks.ensures ∙ length-replicate c.args.slots true;
  so_far = λ i lt. absurd (omega (arith, lt));
}

pub loop-slot-preserved : goal.loop-slot-preserved
loop-slot-preserved c =
    let inv = c.loop-slot.invariant in
    record {
      length = ap length c.mark.ensures ∙ length-set c.loop-slot.marks c.loop-slot.slot false ∙ inv.length;
      so_far = λ i lt. subst (λ (ms : List Bool). slice_index_or ms i false ≡ false) (sym c.mark.ensures) (unmarked_more c.loop-slot.marks c.loop-slot.slot i inv.so_far lt);
    }

pub returns : goal.returns
returns c = λ i.
    let inv = c.loop-slot.invariant in
    let len = inv.length in
    let test = c.loop-slot-test.false in
    elim (cases_lt i c.args.slots) [
      | inl lt ↦ inv.so_far i (omega (arith, lt, test))
      | inr ge ↦ get_or_past c.loop-slot.marks i false (omega (arith, ge, len))
    ]
