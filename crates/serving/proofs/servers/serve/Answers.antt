use Rattle.serving.proofs.Names.{served}
use Rattle.serving.proofs.Keeping.{rounds_more, served_on}
use Rattle.serving.proofs.Going.{rounds_go_on}
use Rattle.serving.proofs.servers.serve.Goals as goal

pub loop-preserved : goal.loop-preserved
loop-preserved g c =
    let world = g.M.Machine.world in
    let traffic = g.W.Wire.past in
    let start = served (world c.args.server.now.machine) c.args.server.now.peers (traffic c.args.wire.now) in
    let here = served (world c.loop.server.machine) c.loop.server.peers (traffic c.loop.wire) in
    let next = served (world c.round.new.self.machine) c.round.new.self.peers (traffic c.round.new.wire) in
    record { rounds = rounds_more c.loop.counter start here next c.loop.invariant.rounds c.round.ensures }

pub returns-clause-served : goal.returns-clause-served
returns-clause-served g c = λ f before was.
    let world = g.M.Machine.world in
    let traffic = g.W.Wire.past in
    served_on f before c.loop.counter (served (world c.args.server.now.machine) c.args.server.now.peers (traffic c.args.wire.now)) (served (world c.loop.server.machine) c.loop.server.peers (traffic c.loop.wire)) c.loop.invariant.rounds was

pub returns-clause-goes_on : goal.returns-clause-goes_on
returns-clause-goes_on g c = λ f before was.
    let world = g.M.Machine.world in
    let traffic = g.W.Wire.past in
    rounds_go_on f before c.loop.counter (served (world c.args.server.now.machine) c.args.server.now.peers (traffic c.args.wire.now)) (served (world c.loop.server.machine) c.loop.server.peers (traffic c.loop.wire)) c.loop.invariant.rounds was
