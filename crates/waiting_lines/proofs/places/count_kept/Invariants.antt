use Rattle.std.proofs.Common.{◌≡◌, ◌≤◌, count_by, take}
use Rattle.waiting_lines.proofs.places.count_kept.Given as goal

-- those before the index are counted
abbrev pub invariant-loop-item : goal.invariant-loop-item
invariant-loop-item g l = record {
  count : l.count ≡ count_by (g.K.Tests.passes l.keeper) (take l.item-index l.items);
  most : l.count ≤ l.item-index;
}
