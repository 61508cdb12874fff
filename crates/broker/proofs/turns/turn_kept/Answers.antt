use Rattle.broker.proofs.Names.{◌∙◌, sym, subst, same_Some, IsPick, Pick}
use Rattle.commands.specs.State.{broker_of}
use Rattle.broker.proofs.turns.turn_kept.Goals as goal

pub returns-then-can_deliver-clause-some : goal.returns-then-can_deliver-clause-some
returns-then-can_deliver-clause-some c = c.can_deliver.ensures.yes c.if-can_deliver.true

pub returns-clause-none : goal.returns-clause-none
returns-clause-none c = λ e p is pick.
    let same = same_Some p c.in-Some.pick (sym is ∙ c.in-Some.is) in
    absurd (c.can_deliver.ensures.no c.if-can_deliver.false (subst (λ (q : Pick). IsPick (broker_of c.args.core.now) q) same pick))
