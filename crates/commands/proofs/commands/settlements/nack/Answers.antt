use Rattle.commands.proofs.Names.{sym, [], queue_names, waiting, Rejects}
use Rattle.commands.proofs.Settling.{all_within, all_rise, settles, stays_placed}
use Rattle.commands.proofs.commands.settlements.nack.Goals as goal

pub reject-requires-clause-within : goal.reject-requires-clause-within
reject-requires-clause-within c =
    all_within c.args.id.connection c.args.id.number c.args.nack.now.delivery_tag c.args.nack.now.multiple c.in_ok-span.span c.args.depot.now c.args.channel.now (waiting c.at.result.now) c.requires c.in_ok-span.ensures.span c.at.ensures

pub reject-requires-clause-ordered : goal.reject-requires-clause-ordered
reject-requires-clause-ordered c =
    all_rise c.args.id.connection c.args.id.number c.args.nack.now.delivery_tag c.args.nack.now.multiple c.in_ok-span.span c.args.depot.now c.args.channel.now (waiting c.at.result.now) c.requires c.in_ok-span.ensures.span c.at.ensures

pub reject-requires-clause-distinct : goal.reject-requires-clause-distinct
reject-requires-clause-distinct c = c.requires.agreed.distinct

pub returns-clause-commands : goal.returns-clause-commands
returns-clause-commands c = λ content old new turns. (
  sym (c.in_ok-span.ensures.refusal (queue_names c.args.depot.now.topology.queues)),
  rw c.if-nack.false (settles Rejects c.args.id.connection c.args.id.number c.args.nack.now.delivery_tag c.forget_span.new.self.given.room c.args.nack.now.multiple c.in_ok-span.span c.args.depot.now c.reject.new.self c.args.channel.now c.forget_span.new.self
      (waiting c.at.result.now) [] c.noting-step.result.sends.items c.noting-step.result.notes.items c.reject.new.notes.items
      c.in_ok-span.ensures.span c.at.ensures c.noting-step.ensures.sends (cc (c.noting-step.ensures.notes, c.notes.ensures)) c.in_ok-reject.ensures.ok c.forget_span.ensures.settled old new turns),
)

pub returns-clause-topology : goal.returns-clause-topology
returns-clause-topology c = c.in_ok-reject.ensures.ok.topology

pub returns-clause-in_range : goal.returns-clause-in_range
returns-clause-in_range c =
    stays_placed c.args.id.connection c.args.id.number c.args.nack.now.delivery_tag c.forget_span.new.self.given.room c.args.nack.now.multiple c.in_ok-span.span c.args.depot.now c.args.channel.now c.forget_span.new.self c.requires
    c.in_ok-span.ensures.span c.forget_span.ensures.settled
