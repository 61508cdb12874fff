use Rattle.channels.proofs.Imports.{◌∙◌, ℕ, sym, subst, false≢true}
use Rattle.channels.proofs.waking.wake_one.Goals as goal

pub returns-then-not-may_hold-clause-awake : goal.returns-then-not-may_hold-clause-awake
returns-then-not-may_hold-clause-awake g c = λ may. absurd (false≢true (sym c.if-not-may_hold.true ∙ c.may_hold.ensures ∙ may))

pub returns-clause-awake : goal.returns-clause-awake
returns-clause-awake g c = λ may.
    subst (λ (n : ℕ). g.W.Wakes.is_awake c.wake-counted.new.self c.args.counted.now.consumer.queue c.args.connection c.args.channel n) (sym c.seat_of.ensures.0)
    (subst (λ (q : ℕ). g.W.Wakes.is_awake c.wake-counted.new.self q c.args.connection c.args.channel c.seat_of.result.number) (sym c.seat_of.ensures.1) c.wake-counted.ensures.awake)
