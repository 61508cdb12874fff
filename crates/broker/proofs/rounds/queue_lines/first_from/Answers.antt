use Rattle.broker.proofs.Names.{◌<◌, inl, inr, refl, length, arith, leb_tells, NoneBetween, NonePassed, PicksFrom}
use Rattle.broker.proofs.Orders.{queues_on, queues_back, picks_since}
use Rattle.broker.proofs.Outcomes.{if_some, if_both}
use Rattle.broker.proofs.rounds.queue_lines.first_from.Goals as goal

pub returns-in-None-clause-none : goal.returns-in-None-clause-none
returns-in-None-clause-none c = λ e place p least lt pick.
    elim (leb_tells c.min-turn.result place) [
      | inl a ↦ c.in-None.ensures.none refl place p a.1 lt pick
      | inr a ↦ c.first_between-in-None.ensures.none e place p least a.1 pick
    ]

pub returns-in-Some-clause-passed : goal.returns-in-Some-clause-passed
returns-in-Some-clause-passed c =
    let turn = c.min-turn.ensures in
    let below = c.in-Some.ensures.below in
    queues_on c.args.core.now (length c.args.lines.now) c.args.next c.min-turn.result c.in-Some.found.queue (omega (arith, turn)) c.in-Some.ensures.least (omega (arith, below)) c.in-Some.ensures.passed

pub returns-in-None-clause-passed : goal.returns-in-None-clause-passed
returns-in-None-clause-passed c =
    let turn = c.min-turn.ensures in
    if_both c.first_between-in-None.result (λ f. f.queue < c.min-turn.result) (λ f. NoneBetween c.args.core.now 0 f.queue) (λ f. NonePassed c.args.core.now (length c.args.lines.now) c.args.next f.queue)
    (λ f below before. queues_back c.args.core.now (length c.args.lines.now) c.args.next c.min-turn.result f.queue (omega (arith, turn)) below (c.in-None.ensures.none refl) before)
    c.first_between-in-None.ensures.below c.first_between-in-None.ensures.passed

pub returns-in-None-clause-picked : goal.returns-in-None-clause-picked
returns-in-None-clause-picked c =
    if_some c.first_between-in-None.result (λ f. PicksFrom c.args.core.now c.first_between.new.lines c.first_between-in-None.new.lines f.queue f.pick)
    (λ f. PicksFrom c.args.core.now c.args.lines.now c.first_between-in-None.new.lines f.queue f.pick)
    (λ f picked. picks_since c.args.core.now c.args.lines.now c.first_between.new.lines c.first_between-in-None.new.lines f.queue f.pick (c.in-None.ensures.same refl) picked) c.first_between-in-None.ensures.picked
