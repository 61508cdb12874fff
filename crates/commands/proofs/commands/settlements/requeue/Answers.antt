use Rattle.commands.proofs.Names.{[], refl, waiting, Returns}
use Rattle.commands.proofs.Settling.{all_within, settles, stays_placed}
use Rattle.commands.proofs.commands.settlements.requeue.Goals as goal

pub requeue-requires : goal.requeue-requires
requeue-requires c =
    all_within c.args.id.connection c.args.id.number c.args.tag c.args.multiple c.in_ok-span.span c.args.depot.now c.args.channel.now (waiting c.at.result.now) c.requires c.in_ok-span.ensures.span c.at.ensures

pub returns-clause-settles : goal.returns-clause-settles
returns-clause-settles c = λ sends.
    settles Returns c.args.id.connection c.args.id.number c.args.tag c.forget_span.new.self.given.room c.args.multiple c.in_ok-span.span c.args.depot.now c.requeue.new.self c.args.channel.now c.forget_span.new.self (waiting c.at.result.now) sends sends [] []
    c.in_ok-span.ensures.span c.at.ensures refl refl c.requeue.ensures c.forget_span.ensures.settled

pub returns-clause-topology : goal.returns-clause-topology
returns-clause-topology c = c.requeue.ensures.topology

pub returns-clause-in_range : goal.returns-clause-in_range
returns-clause-in_range c =
    stays_placed c.args.id.connection c.args.id.number c.args.tag c.forget_span.new.self.given.room c.args.multiple c.in_ok-span.span c.args.depot.now c.args.channel.now c.forget_span.new.self c.requires
    c.in_ok-span.ensures.span c.forget_span.ensures.settled
