use Rattle.serving.proofs.Names.{served}
use Rattle.serving.proofs.Onward.{rests_once, rests_not}
use Rattle.serving.proofs.rounds.round.Goals as goal

pub returns-then-not-go_round-clause-round : goal.returns-then-not-go_round-clause-round
returns-then-not-go_round-clause-round g c =
    let traffic = g.W.Wire.past in
    let gone = served (g.M.Machine.world c.go_round.new.machine) c.go_round.new.peers.slots (traffic c.go_round.new.wire) in
    record { acted = c.go_round.result; gone_round = gone; goes = c.go_round.ensures.round; rests = rests_once gone c.go_round.result (traffic c.rest.new.self) c.if-not-go_round.true c.rest.ensures }

pub returns-else-not-go_round-clause-round : goal.returns-else-not-go_round-clause-round
returns-else-not-go_round-clause-round g c =
    let gone = served (g.M.Machine.world c.go_round.new.machine) c.go_round.new.peers.slots (g.W.Wire.past c.go_round.new.wire) in
    record { acted = c.go_round.result; gone_round = gone; goes = c.go_round.ensures.round; rests = rests_not gone c.go_round.result c.if-not-go_round.false }
