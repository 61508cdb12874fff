use Rattle.serving.specs.Rounds.{outputs}
use Rattle.serving.proofs.Passing.{passes_ended, passes_run}
use Rattle.serving.proofs.rounds.pass_marked.Goals as goal

pub returns-clause-ended : goal.returns-clause-ended
returns-clause-ended g c = λ w quiet full.
    passes_ended w c.args.peers.now.slots c.args.quiet.now c.args.full.now c.args.from c.next_loud-first.result c.pass_full.result c.next_settled-end.result c.next_loud.result
    quiet full c.next_loud-first.ensures c.pass_full.ensures.most c.next_settled-end.ensures.marked c.next_loud.ensures

pub returns-clause-traffic : goal.returns-clause-traffic
returns-clause-traffic g c = λ w quiet.
    let traffic = g.W.Wire.past in
    passes_run w c.args.peers.now.slots c.args.quiet.now c.args.from c.next_loud-first.result c.pass_full.result c.next_loud.result (traffic c.args.wire.now) (traffic c.pass_full.new.self)
    quiet c.next_loud-first.ensures c.pass_full.ensures.least (c.pass_full.ensures.traffic (outputs w)) c.next_loud.ensures
