use Rattle.topic_match.proofs.Names.{◌+◌, refl, arith}
use Rattle.std.proofs.lemmas.List.{length-set}
use Rattle.topic_match.proofs.Counting.{counts_begun, counts_written, counts_over}
use Rattle.topic_match.proofs.counts.write_after.Goals as goal

pub loop-place-init : goal.loop-place-init
loop-place-init c = record {
  size = (let n = length-set c.args.after.now 0 c.matches_empty-was.result in omega (arith, n, c.requires.after));
  counts = λ b a. counts_begun c.args.token.now b c.args.words.now c.args.before.now c.args.after.now _ c.matches_empty-was.result a c.matches_empty-was.ensures refl c.requires.after;
}

pub loop-place-preserved : goal.loop-place-preserved
loop-place-preserved c = record {
  size = (let n = length-set c.loop-place.after (c.loop-place.place + 1) c.matches_after-was.result in let k = c.loop-place.invariant.size in omega (arith, n, k));
  counts = λ b a. counts_written c.args.token.now b c.args.words.now c.args.before.now c.loop-place.after _ c.loop-place.place c.index-words-place.result
      c.loop-place.was c.matches_after-was.result a c.loop-place-test.true c.index-words-place.is c.matches_after-was.ensures refl c.loop-place.invariant.size (c.loop-place.invariant.counts b a);
}

pub returns : goal.returns
returns c = λ b a. counts_over _ c.args.words.now c.loop-place.place c.loop-place.after c.loop-place.was (omega arith) c.loop-place.invariant.size (c.loop-place.invariant.counts b a)
