use Rattle.reloading.proofs.Names.{[], subst, Option, List, IsFixedFor}
use Rattle.std.specs.Borrow.{Bor}
use Rattle.std.specs.Prelude.{IfSome}
use Rattle.paths.specs.declared.visits.Visit.{Visit}
use Rattle.reloading.proofs.Leading.{exploration_of, fixed_spares}
use Rattle.reloading.proofs.dangers.may_endanger.Goals as goal

pub leads_there-requires-clause-explored : goal.leads_there-requires-clause-explored
leads_there-requires-clause-explored c =
    let fixed = subst (λ (z : Option (Bor (List Visit))). IfSome z (λ e. IsFixedFor c.args.topology.now c.args.queue.now e.now)) c.in-Some-fixed.is c.requires.fixed in
    exploration_of c.args.topology.now c.args.queue.now [] c.in-Some-fixed.explored.now (fixed [])

pub returns-in-Some-fixed : goal.returns-in-Some-fixed
returns-in-Some-fixed c off =
    let fixed = subst (λ (z : Option (Bor (List Visit))). IfSome z (λ e. IsFixedFor c.args.topology.now c.args.queue.now e.now)) c.in-Some-fixed.is c.requires.fixed in
    fixed_spares c.args.topology.now c.args.guarantee.now c.args.queue.now c.in-Some-fixed.explored.now c.leads_there.result fixed c.leads_there.ensures off
