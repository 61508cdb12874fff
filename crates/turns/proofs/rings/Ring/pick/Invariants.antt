use Rattle.std.specs.Prelude.{◌≡◌}
use Rattle.turns.proofs.rings.Ring.pick.Given as goal

abbrev pub invariant-loop : goal.invariant-loop
invariant-loop l = l.self.members ≡ l.fn.self.members
