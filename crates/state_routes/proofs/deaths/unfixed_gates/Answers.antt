use Rattle.state_routes.proofs.Names.{[], arith, IsUnfixedEnd}
use Rattle.state_routes.proofs.DeadLetters.{entered_more, entered_all}
use Rattle.state_routes.proofs.deaths.unfixed_gates.Goals as goal

pub loop-at-preserved : goal.loop-at-preserved
loop-at-preserved c =
    entered_more c.args.topology.now [] (IsUnfixedEnd c.args.topology.now) c.args.queues.now c.loop-at.at c.index-queues-at.result c.loop-at.gates.items c.add_unfixed.new.gates.items
    c.loop-at-test.true c.index-queues-at.is c.in_ok-add_unfixed.ensures c.loop-at.invariant

pub returns : goal.returns
returns c = entered_all c.args.topology.now [] (IsUnfixedEnd c.args.topology.now) c.args.queues.now c.loop-at.at c.loop-at.gates.items (omega arith) c.loop-at.invariant
