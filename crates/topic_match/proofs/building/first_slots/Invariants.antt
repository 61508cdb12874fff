use Rattle.topic_match.proofs.Names.{◌<◌}
use Rattle.topic_match.proofs.building.first_slots.Given as goal

abbrev pub invariant-loop-pattern : goal.invariant-loop-pattern
invariant-loop-pattern l = 2 < l.count
