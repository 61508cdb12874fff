use Rattle.exchange_graph.proofs.DeadSteps.{none_dies, none_leads}
use Rattle.exchange_graph.proofs.topologies.Topology.dead_letter.Goals as goal

pub returns-in_default : goal.returns-in_default
returns-in_default c = none_dies c.args.self.now c.args.queue.now c.in_default.ensures.absent

pub returns-in-None : goal.returns-in-None
returns-in-None c = let e = c.in-None.is in let f = c.in-Some.ensures in let g = c.queue-last.ensures in none_leads c.args.self.now c.args.queue.now c.in-Some.place c.queue-last.result.now c.ghost_is_well_formed.ensures f.within f.named g e
