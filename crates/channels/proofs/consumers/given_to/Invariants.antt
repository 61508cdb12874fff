use Rattle.channels.proofs.Imports.{◌≡◌, ◌≤◌, take, is_to, is_waiting}
use Rattle.std.proofs.Common.{count_by}
use Rattle.std.specs.Prelude.{◌&&◌}
use Rattle.channels.proofs.consumers.given_to.Given as goal

-- those before the index are counted
abbrev pub invariant-loop-one : goal.invariant-loop-one
invariant-loop-one l = record {
  count : l.count ≡ count_by (λ x. is_waiting x && is_to l.number x.by) (take l.one-index l.given);
  most : l.count ≤ l.one-index;
}
