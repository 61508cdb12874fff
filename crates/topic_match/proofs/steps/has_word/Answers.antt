use Rattle.topic_match.proofs.Stepping.{word_both, word_here, word_not}
use Rattle.topic_match.proofs.steps.has_word.Goals as goal

pub loop-place-preserved : goal.loop-place-preserved
loop-place-preserved c =
    word_not c.args.steps.now c.loop-place.place c.index-steps-place.result c.args.word.now c.is_by_word.result c.loop-place-test.true c.index-steps-place.is c.is_by_word.ensures c.if-is_by_word.false
    c.loop-place.invariant

pub returns-then-is_by_word : goal.returns-then-is_by_word
returns-then-is_by_word c =
    word_both c.args.steps.now c.args.word.now
    (word_here c.args.steps.now c.loop-place.place c.index-steps-place.result c.args.word.now c.is_by_word.result c.loop-place-test.true c.index-steps-place.is c.is_by_word.ensures c.if-is_by_word.true)
