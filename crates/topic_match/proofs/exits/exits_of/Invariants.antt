use Rattle.topic_match.proofs.Names.{AreExits}
use Rattle.topic_match.proofs.exits.exits_of.Given as goal

abbrev pub invariant-loop-place : goal.invariant-loop-place
invariant-loop-place l = AreExits l.patterns l.nodes l.place l.exits.items
