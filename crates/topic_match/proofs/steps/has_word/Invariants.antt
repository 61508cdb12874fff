use Rattle.topic_match.proofs.Names.{take, IsIn, Word}
use Rattle.topic_match.proofs.steps.has_word.Given as goal

abbrev pub invariant-loop-place : goal.invariant-loop-place
invariant-loop-place l = IsIn (Word l.word) (take l.place l.steps) → ⊥
