use Rattle.commands.proofs.Names.{◌∷◌, [], ◌∙◌, sym, ap, subst, queue_names, limited, reply, Send, BasicQosOk, NumbersRise, IsPlaced, TakeWithin, AreWithin, seen}
use Rattle.commands.proofs.Placing.{same_limited, same_consumers_limited}
use Rattle.commands.proofs.Stepping.{limited_is}
use Rattle.commands.proofs.Turning.{does_here}
use Rattle.commands.proofs.commands.limiting.limit.Goals as goal

pub returns-clause-commands : goal.returns-clause-commands
returns-clause-commands c = λ s content old new turns. (
  sym c.in_ok-check_implemented.ensures,
  does_here c.args.id.connection c.args.id.number s (seen s c.args.channel.now) (seen s c.limit.new.self) (limited (seen s c.args.channel.now) c.args.qos.now)
      c.in_ok-step.step.sends.items (reply c.args.id.connection c.args.id.number BasicQosOk ∷ []) c.in_ok-step.step.notes.items old new
      (c.in_ok-step.ensures.sends ∙ ap (λ (x : Send). x ∷ []) c.qos_ok.ensures.send) c.in_ok-step.ensures.notes
      (ap (seen s) c.limit.ensures ∙ limited_is (queue_names s.topology.queues) c.args.channel.now c.args.qos.now) turns,
)

pub returns-clause-in_range : goal.returns-clause-in_range
returns-clause-in_range c = λ t placed.
    subst (IsPlaced t) (sym c.limit.ensures)
    (record {
      outstanding = subst (AreWithin t) (sym (same_limited c.args.channel.now c.args.qos.now)) placed.outstanding;
      consumers = subst (TakeWithin t) (sym (same_consumers_limited c.args.channel.now c.args.qos.now)) placed.consumers;
      rise = subst NumbersRise (sym (same_consumers_limited c.args.channel.now c.args.qos.now)) placed.rise;
    })
