use Rattle.topic_match.proofs.Names.{arith}
use Rattle.topic_match.proofs.Counting.{none_first}
use Rattle.topic_match.proofs.tries.first_counts.Goals as goal

pub returns : goal.returns
returns c =
    none_first c.args.words.now c.loop-place.place c.loop-place.counts.items (omega (arith, c.loop-place-test.false, c.loop-place.auto.place-end)) c.loop-place.invariant.size c.loop-place.invariant.each
