use Rattle.reloading.proofs.Names.{arith}
use Rattle.reloading.proofs.Leading.{fronts_fixed}
use Rattle.reloading.proofs.dangers.fixed_for.Goals as goal

pub front-requires : goal.front-requires
front-requires c = let s = c.requires.size in let w = c.in-Some.ensures.within in omega (arith, s, w)

pub returns-in-Some : goal.returns-in-Some
returns-in-Some c = fronts_fixed c.args.topology.now c.args.queue.now c.args.deaths.now c.in-Some.place c.front.result c.requires c.in-Some.ensures.named c.front.ensures.some
