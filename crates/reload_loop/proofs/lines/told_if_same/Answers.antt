use Rattle.reload_loop.proofs.Telling.{carried_other, carried_same}
use Rattle.reload_loop.proofs.Outcomes.{is_not}
use Rattle.reload_loop.proofs.lines.told_if_same.Goals as goal

pub returns-then-has_same : goal.returns-then-has_same
returns-then-has_same c = carried_same c.args.read.now c.args.before.now c.args.told (c.has_same.ensures.0 c.if-has_same.true)

pub returns-else-has_same : goal.returns-else-has_same
returns-else-has_same c = carried_other c.args.read.now c.args.before.now c.args.told (is_not _ _ c.if-has_same.false c.has_same.ensures)
