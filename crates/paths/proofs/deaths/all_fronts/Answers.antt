use Rattle.paths.proofs.Fronts.{fronts_none}
use Rattle.paths.proofs.deaths.all_fronts.Goals as goal

pub loop-at-init : goal.loop-at-init
loop-at-init c = rw (c.new-fronts.ensures.items) (fronts_none c.args.topology.now)
