use Rattle.std.proofs.Common.{◌+◌, ◌≤◌, ◌∙◌, length, arith}
use Rattle.std.specs.Option.{option_copied}
use Rattle.model.specs.Parts.{parts_left}
use Rattle.model.proofs.Left.{left}
use Rattle.scripts.proofs.Loops.{taken, left_less, line_few}
use Rattle.scripts.proofs.script.read_script.Goals as goal

pub lines-preserved : goal.lines-preserved
lines-preserved c =
    let t = c.in-Ok.ensures in
    let step = taken (c.lines.number + 1) c.lines.opened c.in-Ok.after c.lines.found.items c.take_line.new.found.items c.first_part.result.0.now (parts_left 10 (option_copied c.first_part.result.1)) t.0 t.1 t.2 t.3 in
    record {
      said = step ∙ (rw (c.in-Some.is, c.first_part.ensures.parts) at c.lines.invariant.said);
      few = (let h : left (option_copied c.first_part.result.1) ≤ length c.in-Some.text.now = left_less _ _ c.first_part.ensures.shorter in let b : c.lines.number + (length c.in-Some.text.now + 1) ≤ length c.args.text.now + 1 = rw c.in-Some.is at c.lines.invariant.few in omega (arith, h, b));
      opened = rw t.3 (line_few c.lines.opened c.first_part.result.0.now c.lines.invariant.opened);
    }
