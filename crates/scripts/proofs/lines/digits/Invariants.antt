use Rattle.std.proofs.Common.{◌≡◌, drop}
use Rattle.scripts.specs.Script.{digits_after}
use Rattle.scripts.proofs.lines.digits.Given as goal

abbrev pub invariant-loop-b : goal.invariant-loop-b
invariant-loop-b l = digits_after l.n (drop l.b-index l.text) ≡ digits_after 0 l.text
