use Rattle.paths.proofs.Names.{None, arith, in_get, Visit}
use Rattle.paths.specs.declared.locations.Spot.TheVariants as spot
use Rattle.paths.proofs.Leads.{none_more, none_leads, one_leads}
use Rattle.paths.proofs.leading.some_leads.Goals as goal

abbrev none : Visit
none = record { location = record { spot = spot.Default; fixed = None }; from = 0 }

pub leads-requires-clause-there : goal.leads-requires-clause-there
leads-requires-clause-there c = c.requires.there _ (in_get c.args.visits.now c.loop-visit.visit-index none (omega arith))

pub returns-then-leads : goal.returns-then-leads
returns-then-leads c = one_leads c.args.topology.now c.args.queue.now c.args.visits.now c.args.marks.now c.loop-visit.visit-index none (omega arith) (c.leads.ensures.0 c.if-leads.true)

pub loop-visit-preserved : goal.loop-visit-preserved
loop-visit-preserved c = none_more c.args.topology.now c.args.queue.now c.args.visits.now c.args.marks.now c.loop-visit.visit-index none c.leads.result c.loop-visit.invariant c.leads.ensures c.if-leads.false

pub returns : goal.returns
returns c = none_leads c.args.topology.now c.args.queue.now c.args.visits.now c.args.marks.now c.loop-visit.visit-index (omega arith) c.loop-visit.invariant
