use Rattle.topic_match.proofs.Names.{List, [], ◌∷◌, length, length-append, ap, arith, Met}
use Rattle.topic_match.proofs.Walking.{added_skip, added_more, added_here, found_step, found_none}
use Rattle.topic_match.proofs.walks.+walk.Goals as goal

pub loop-place-preserved-in_default : goal.loop-place-preserved-in_default
loop-place-preserved-in_default t c = record {
  grown = c.loop-place.invariant.grown;
  added = λ few.
      added_skip c.args.patterns.now c.args.links.now.nodes.now c.args.words.now c.args.from.node c.loop-place.place c.args.steps.now c.index-steps-place.result c.args.met.now.items c.loop-place.met.items
      c.loop-place-test.true c.index-steps-place.is
      (let e = c.in_ok-next.ensures.none in found_none c.args.patterns.now c.args.links.now.nodes.now c.args.words.now c.args.from.node c.index-steps-place.result c.in_ok-next.field-0 (c.in_default.is) e)
      (c.loop-place.invariant.added few);
}

pub loop-place-preserved : goal.loop-place-preserved
loop-place-preserved t c = record {
  grown = omega (arith, c.loop-place.invariant.grown, c.in_ok-walk.ensures.grown);
  added = λ few.
      added_more c.args.patterns.now c.args.links.now.nodes.now c.args.words.now c.args.from.node c.loop-place.place c.in-Some.next.node c.in-Some.next.counts.items c.args.steps.now c.index-steps-place.result
      c.args.met.now.items c.loop-place.met.items c.walk.new.met.items c.loop-place-test.true c.index-steps-place.is c.requires.taken.distinct
      (found_step c.args.patterns.now c.args.links.now.nodes.now c.args.words.now c.args.from.node c.index-steps-place.result c.in_ok-next.field-0 c.in-Some.next c.in-Some.is c.in_ok-next.ensures.next)
      (c.in_ok-walk.ensures.added few) (c.loop-place.invariant.added (omega (arith, few, c.in_ok-walk.ensures.grown)));
}

pub returns-clause-added : goal.returns-clause-added
returns-clause-added t c = λ few.
    added_here c.args.patterns.now c.args.links.now.nodes.now c.args.links.now.slots.now c.args.words.now c.args.steps.now c.args.from c.loop-place.place c.args.met.now.items c.loop-place.met.items c.push.new.self.items
    (omega (arith, c.loop-place-test.false, c.loop-place.auto.place-end)) c.requires.linked c.requires.within c.requires.counted c.requires.taken c.in_ok-push.ensures.items
    (c.loop-place.invariant.added (omega (arith, few, ap (λ (z : List Met). length z) c.in_ok-push.ensures.items, length-append c.loop-place.met.items (c.args.from ∷ []))))
