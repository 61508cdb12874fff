use Rattle.paths.proofs.Chains.{begun_at, within_set}
use Rattle.paths.proofs.reach.reached.Goals as goal

pub spread-requires-clause-within : goal.spread-requires-clause-within
spread-requires-clause-within c = rw (c.as_mut_slice.ensures.value, c.in_ok-marks.ensures) (within_set c.args.links.now c.args.count c.args.start c.requires.within)

pub spread-requires-clause-begun : goal.spread-requires-clause-begun
spread-requires-clause-begun c = rw (c.as_mut_slice.ensures.value, c.in_ok-marks.ensures) (begun_at c.args.links.now c.args.count c.args.start c.requires.start)
