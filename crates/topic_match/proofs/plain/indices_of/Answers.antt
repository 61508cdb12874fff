use Rattle.topic_match.proofs.Names.{arith}
use Rattle.topic_match.proofs.Some.{some_at}
use Rattle.topic_match.proofs.plain.indices_of.Goals as goal

pub loop-index-preserved : goal.loop-index-preserved
loop-index-preserved c =
    some_at c.args.patterns.now c.args.words.now c.loop-index.index c.loop-index.indices.items c.add_if.new.indices.items c.matches-yes.result
    c.index-patterns-index.result c.tokens.result.now c.loop-index.invariant (omega (arith, c.loop-index-test.true)) c.index-patterns-index.is
    c.tokens.ensures c.matches-yes.ensures c.in_ok-add_if.ensures
