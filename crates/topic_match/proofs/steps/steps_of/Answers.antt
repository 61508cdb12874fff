use Rattle.topic_match.proofs.Names.{◌++◌, ◌∷◌, [], List, ap, ◌∙◌, subst, Decides, IsIn, Token, Word}
use Rattle.topic_match.proofs.Stepping.{steps_same, steps_more}
use Rattle.topic_match.proofs.steps.steps_of.Goals as goal

pub loop-word-preserved-then-has_word : goal.loop-word-preserved-then-has_word
loop-word-preserved-then-has_word c =
    steps_same c.loop-word.steps.items c.args.words.now c.loop-word.word-index c.word-item.result c.has_word.result c.loop-word-test.true c.word-item.is
    (subst (λ (z : List Token). Decides c.has_word.result (IsIn (Word c.word-item.result) z)) c.as_slice.ensures c.has_word.ensures) c.if-has_word.true c.loop-word.invariant

pub loop-word-preserved : goal.loop-word-preserved
loop-word-preserved c =
    steps_more c.loop-word.steps.items c.push-in-loop-word.new.self.items c.args.words.now c.loop-word.word-index c.word-item.result c.as_bytes.result.now c.has_word.result c.loop-word-test.true c.word-item.is
    (subst (λ (z : List Token). Decides c.has_word.result (IsIn (Word c.word-item.result) z)) c.as_slice.ensures c.has_word.ensures) c.if-has_word.false c.as_bytes.ensures
    (c.in_ok-push-3.ensures.ok ∙ ap (λ (z : Token). c.loop-word.steps.items ++ z ∷ []) c.word.ensures) c.loop-word.invariant
