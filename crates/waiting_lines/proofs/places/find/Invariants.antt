use Rattle.std.proofs.Common.{◌<◌, ◌+◌, ◌-◌, ℕ}
use Rattle.waiting_lines.specs.Order.{FailsAt}
use Rattle.waiting_lines.proofs.places.find.Given as goal

-- none so near passes the test
abbrev pub invariant-loop-away : goal.invariant-loop-away
invariant-loop-away g l = record {
  above : (k : ℕ) → k < l.away → FailsAt (g.K.Tests.passes l.test) l.items (l.middle + k);
  below : (k : ℕ) → k < l.away → k < l.middle → FailsAt (g.K.Tests.passes l.test) l.items (l.middle - 1 - k);
}
