use Rattle.guarantee_search.proofs.Names.{◌≡◌, ◌≤◌, drop, length, spelled_key}
use Rattle.guarantee_search.proofs.spelling.spelled_key.Given as goal

abbrev pub invariant-loop-left : goal.invariant-loop-left
invariant-loop-left l = record { within : l.left ≤ length l.letters; key : l.key.items ≡ spelled_key l.words (drop l.left l.letters) }

abbrev pub decreases-loop-left : goal.decreases-loop-left
decreases-loop-left l = l.left
