use Rattle.server.proofs.Names.{ReturnsOutcome}
use Rattle.server.proofs.Verdicts.{found_next}
use Rattle.server.proofs.verifying.outcomes_by.Goals as goal

pub loop-place-preserved : goal.loop-place-preserved
loop-place-preserved c =
    found_next (ReturnsOutcome c.args.topology.now c.args.certificates.now) c.args.guarantees.now c.loop-place.place c.index-guarantees-place.result
    c.loop-place.outcomes.items c.push.new.self.items c.in_ok-outcome.outcome c.loop-place-test.true c.index-guarantees-place.is c.loop-place.invariant c.in_ok-outcome.ensures c.in_ok-push.ensures.items
