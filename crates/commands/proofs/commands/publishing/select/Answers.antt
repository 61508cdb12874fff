use Rattle.commands.proofs.Names.{refl, sym, ap, subst, started, select_sends, IsPlaced, seen}
use Rattle.commands.proofs.Turning.{does_here}
use Rattle.commands.proofs.commands.publishing.select.Goals as goal

pub returns-clause-commands : goal.returns-clause-commands
returns-clause-commands c = λ s content old new turns.
    let ch = seen s c.args.channel.now in (
      refl,
      does_here c.args.id.connection c.args.id.number s (seen s c.args.channel.now) (seen s c.select.new.self) (record ch { confirm = started ch.confirm })
          c.in_ok-step.step.sends.items (select_sends c.args.id.connection c.args.id.number c.args.no_wait) c.in_ok-step.step.notes.items old new
          c.in_ok-step.ensures.sends c.in_ok-step.ensures.notes (ap (seen s) c.select.ensures) turns,
    )

pub returns-clause-in_range : goal.returns-clause-in_range
returns-clause-in_range c = λ t placed. subst (IsPlaced t) (sym c.select.ensures) (record { outstanding = placed.outstanding; consumers = placed.consumers; rise = placed.rise })
