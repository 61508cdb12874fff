use Rattle.broker.proofs.Names.{◌∙◌, ◌<◌, length, length-set, set, sym, subst, arith, Pick, Queue, Rounds, Wakes, consumer_at, is_consumer, line_of, GoesOn, IsNotAsleepAt, NobodyFallsAsleep}
use Rattle.broker.proofs.Marked.{borrowed, marked_set}
use Rattle.broker.proofs.Orders.{woken_same, woken_asleep, woken_here, awake_still}
use Rattle.broker.proofs.rounds.ConsumerRoundsWakes.wake.Goals as goal

pub invariant_of-self : goal.invariant_of-self
invariant_of-self c =
    let lines = c.self.inside.lines.items in
    let long = c.self.inside.lines.ok.0 in
    let lt : c.args.seat.queue < length lines = omega (arith, long) in
    marked_set lines c.args.seat.queue c.wake.new.self lt c.self.inside.awake c.set.new.self c.self.inside.named c.set.ensures.size c.set.ensures.set c.self.invariant.0 c.self.invariant.1

pub returns-then-seat-len-clause-awake : goal.returns-then-seat-len-clause-awake
returns-then-seat-len-clause-awake c =
    let lines = c.self.inside.lines.items in
    let queue = c.args.seat.queue in
    let q : Pick = consumer_at c.args.connection c.args.channel c.args.seat.number in
    let long = c.self.inside.lines.ok.0 in
    let lt : queue < length lines = omega (arith, long) in
    woken_here lines queue c.wake.new.self lt q (subst (λ (l : Queue Pick). Wakes (λ p. is_consumer p q) l.order c.wake.new.self.order) (sym (borrowed lines queue c.index_mut.result.now lt c.index_mut.ensures.value)) c.wake.ensures.order)

pub returns-then-seat-len-clause-stay : goal.returns-then-seat-len-clause-stay
returns-then-seat-len-clause-stay c = λ place d h n was.
    let lines = c.self.inside.lines.items in
    let queue = c.args.seat.queue in
    let l : Queue Pick = c.wake.new.self in
    let q : Pick = consumer_at c.args.connection c.args.channel c.args.seat.number in
    let long = c.self.inside.lines.ok.0 in
    let lt : queue < length lines = omega (arith, long) in
    let wakes : Wakes (λ p. is_consumer p q) (line_of lines queue).order l.order = subst (λ (x : Queue Pick). Wakes (λ p. is_consumer p q) x.order l.order) (sym (borrowed lines queue c.index_mut.result.now lt c.index_mut.ensures.value)) c.wake.ensures.order in
    awake_still lines (set lines queue l) (woken_same lines queue l lt q wakes) (woken_asleep lines queue l lt q wakes) place (consumer_at d h n) (subst (λ (r : Rounds). IsNotAsleepAt r.lines place (consumer_at d h n)) (sym c.self.view_is) was)

pub returns-then-seat-len-clause-on : goal.returns-then-seat-len-clause-on
returns-then-seat-len-clause-on c = λ start was.
    let lines = c.self.inside.lines.items in
    let queue = c.args.seat.queue in
    let l : Queue Pick = c.wake.new.self in
    let q : Pick = consumer_at c.args.connection c.args.channel c.args.seat.number in
    let long = c.self.inside.lines.ok.0 in
    let lt : queue < length lines = omega (arith, long) in
    let wakes : Wakes (λ p. is_consumer p q) (line_of lines queue).order l.order = subst (λ (x : Queue Pick). Wakes (λ p. is_consumer p q) x.order l.order) (sym (borrowed lines queue c.index_mut.result.now lt c.index_mut.ensures.value)) c.wake.ensures.order in
    let on = subst (λ (r : Rounds). GoesOn start r × NobodyFallsAsleep start.lines r.lines) (sym c.self.view_is) was in
    (record { len = length-set lines queue l ∙ on.0.len; same = λ at. woken_same lines queue l lt q wakes at ∙ on.0.same at; next = on.0.next }, λ place p i. on.1 place p (woken_asleep lines queue l lt q wakes place p i))
