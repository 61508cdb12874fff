use Rattle.paths.proofs.Names.{arith, subst, List, take_all, KeyedPlace, AreOneOn}
use Rattle.paths.proofs.Among.{next_more}
use Rattle.paths.proofs.walking.advance.Goals as goal

pub loop-location-preserved : goal.loop-location-preserved
loop-location-preserved c = next_more c.args.topology.now c.args.name.now c.args.next.now c.args.locations.now c.loop-location.found.items c.step.new.locations.items c.loop-location.location-index c.location-item.result (omega arith) c.location-item.is c.loop-location.invariant c.in_ok-step.ensures

pub returns : goal.returns
returns c = subst (λ (ss : List KeyedPlace). AreOneOn c.args.topology.now c.args.name.now c.args.next.now ss c.loop-location.found.items) (take_all c.loop-location.location-index c.args.locations.now (omega arith)) c.loop-location.invariant
