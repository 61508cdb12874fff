use Rattle.commands.proofs.Names.{sym, [], queue_names, waiting, Leaves, Acked}
use Rattle.commands.proofs.Settling.{all_within, settles, stays_placed}
use Rattle.commands.proofs.commands.settlements.ack.Goals as goal

pub ack-requires-clause-within : goal.ack-requires-clause-within
ack-requires-clause-within c =
    all_within c.args.id.connection c.args.id.number c.args.ack.now.delivery_tag c.args.ack.now.multiple c.in_ok-span.span c.args.depot.now c.args.channel.now (waiting c.at.result.now) c.requires c.in_ok-span.ensures.span c.at.ensures

pub ack-requires-clause-distinct : goal.ack-requires-clause-distinct
ack-requires-clause-distinct c = c.requires.agreed.distinct

pub returns-clause-commands : goal.returns-clause-commands
returns-clause-commands c = λ content old new turns. (
  sym (c.in_ok-span.ensures.refusal (queue_names c.args.depot.now.topology.queues)),
  settles (Leaves Acked) c.args.id.connection c.args.id.number c.args.ack.now.delivery_tag c.forget_span.new.self.given.room c.args.ack.now.multiple c.in_ok-span.span c.args.depot.now c.ack.new.self c.args.channel.now c.forget_span.new.self
      (waiting c.at.result.now) [] c.noting-step.result.sends.items c.noting-step.result.notes.items c.ack.new.notes.items
      c.in_ok-span.ensures.span c.at.ensures c.noting-step.ensures.sends (cc (c.noting-step.ensures.notes, c.notes.ensures)) c.in_ok-ack.ensures.ok c.forget_span.ensures.settled old new turns,
)

pub returns-clause-topology : goal.returns-clause-topology
returns-clause-topology c = c.in_ok-ack.ensures.ok.topology

pub returns-clause-in_range : goal.returns-clause-in_range
returns-clause-in_range c =
    stays_placed c.args.id.connection c.args.id.number c.args.ack.now.delivery_tag c.forget_span.new.self.given.room c.args.ack.now.multiple c.in_ok-span.span c.args.depot.now c.args.channel.now c.forget_span.new.self c.requires
    c.in_ok-span.ensures.span c.forget_span.ensures.settled
