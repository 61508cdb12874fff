use Rattle.topic_match.proofs.Names.{AreSome}
use Rattle.topic_match.proofs.plain.indices_of.Given as goal

abbrev pub invariant-loop-index : goal.invariant-loop-index
invariant-loop-index l = AreSome l.patterns l.words l.index l.indices.items
