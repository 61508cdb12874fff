use Rattle.topic_match.proofs.Names.{take, AreSteps}
use Rattle.topic_match.proofs.steps.steps_of.Given as goal

abbrev pub invariant-loop-word : goal.invariant-loop-word
invariant-loop-word l = AreSteps l.steps.items (take l.word-index l.words)
