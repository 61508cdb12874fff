use Rattle.state_routes.proofs.Names.{ap, length, arith, IsEnd}
use Rattle.paths.proofs.Traced.{get_there}
use Rattle.state_routes.proofs.DeadLetters.{entered_more, entered_all}
use Rattle.state_routes.proofs.deaths.death_gates.Goals as goal

pub add_deaths-requires : goal.add_deaths-requires
add_deaths-requires c = get_there c.args.topology.now.queues c.loop-at.at c.queue-last.result.now (let n = ap length c.queues-at-end.ensures in omega (arith, n)) c.queue-last.ensures

pub loop-at-preserved : goal.loop-at-preserved
loop-at-preserved c =
    entered_more c.args.topology.now c.args.patterns.now (IsEnd c.args.topology.now c.args.queue.now) c.args.topology.now.queues c.loop-at.at c.queue-last.result.now c.loop-at.gates.items c.add_deaths.new.gates.items
    (let n = ap length c.queues-at-end.ensures in omega (arith, n)) c.queue-last.ensures (c.in_ok-add_deaths.ensures c.args.queue.now c.in_ok-leading.ensures) c.loop-at.invariant

pub returns : goal.returns
returns c = entered_all c.args.topology.now c.args.patterns.now (IsEnd c.args.topology.now c.args.queue.now) c.args.topology.now.queues c.loop-at.at c.loop-at.gates.items (let n = ap length c.queues-at-end.ensures in omega (arith, n)) c.loop-at.invariant
