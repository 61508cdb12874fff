use Rattle.std.proofs.Common.{◌≡◌}
use Rattle.waiting_lines.specs.Picked.{Rest, count_awake}
use Rattle.waiting_lines.proofs.picking.pick.Given as goal

-- those who sleep now and didn't can't be served
abbrev pub invariant-members : goal.invariant-members
invariant-members g l = record {
  rest : Rest (g.C.Takers.cannot l.takers) l.initial.line.order l.line.order;
  capacity : l.line.capacity ≡ l.initial.line.capacity;
}

abbrev pub decreases-members : goal.decreases-members
decreases-members g l = count_awake l.line.order
