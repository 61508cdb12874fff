use Rattle.paths.proofs.Names.{None, arith, in_get, Visit}
use Rattle.paths.specs.declared.locations.Spot.TheVariants as spot
use Rattle.paths.proofs.Leads.{links_none, links_more, links_all}
use Rattle.paths.proofs.leading.link_all.Goals as goal

abbrev none : Visit
none = record { location = record { spot = spot.Default; fixed = None }; from = 0 }

pub link-requires : goal.link-requires
link-requires c = c.requires _ (in_get c.args.visits.now c.loop-visit.visit-index none (omega arith))

pub loop-visit-init : goal.loop-visit-init
loop-visit-init c = links_none c.args.topology.now c.args.queue.now c.args.to c.args.links.now.items

pub loop-visit-preserved : goal.loop-visit-preserved
loop-visit-preserved c =
    links_more c.args.topology.now c.args.queue.now c.args.visits.now c.loop-visit.visit-index none c.args.to c.args.links.now.items _ _ (omega arith) c.loop-visit.invariant c.in_ok-link.ensures

pub returns : goal.returns
returns c = links_all c.args.topology.now c.args.queue.now c.args.visits.now c.loop-visit.visit-index c.args.to c.args.links.now.items _ (omega arith) c.loop-visit.invariant
