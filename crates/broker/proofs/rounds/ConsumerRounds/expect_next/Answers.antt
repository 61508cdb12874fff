use Rattle.broker.proofs.Names.{◌∙◌, ◌<◌, length, sym, ap, subst, arith, Pick, Queue, Rounds, AllAreConsumers}
use Rattle.broker.proofs.Coming.{room_for, expected}
use Rattle.broker.proofs.Marked.{borrowed}
use Rattle.broker.proofs.rounds.ConsumerRounds.expect_next.Goals as goal

pub invariant_of-self : goal.invariant_of-self
invariant_of-self c =
    let lines = c.self.inside.lines.items in
    let long = ap (λ (r : Rounds). length r.lines) c.self.view_is in
    let as_many = c.requires.lines in
    let within = c.in-Some-queue_consumed.ensures.within in
    let lt : c.in-Some-queue_consumed.queue < length lines = omega (arith, long, as_many, within) in
    room_for lines c.in-Some-queue_consumed.queue c.reserve.new.self lt (c.reserve.ensures.same ∙ sym (ap (λ (l : Queue Pick). l.order) (borrowed lines c.in-Some-queue_consumed.queue c.index_mut.result.now lt c.index_mut.ensures.value)))
    c.self.inside.awake c.self.inside.named c.self.invariant.0 c.self.invariant.1

pub invariant_of-self-2 : goal.invariant_of-self-2
invariant_of-self-2 c =
    let lines = c.self.inside.lines.items in
    let long = ap (λ (r : Rounds). length r.lines) c.self.view_is in
    let as_many = c.requires.lines in
    let within = c.in-Some-queue_consumed.ensures.within in
    let lt : c.in-Some-queue_consumed.queue < length lines = omega (arith, long, as_many, within) in
    room_for lines c.in-Some-queue_consumed.queue c.reserve.new.self lt (c.reserve.ensures.same ∙ sym (ap (λ (l : Queue Pick). l.order) (borrowed lines c.in-Some-queue_consumed.queue c.index_mut.result.now lt c.index_mut.ensures.value)))
    c.self.inside.awake c.self.inside.named c.self.invariant.0 c.self.invariant.1

pub returns-clause-expected : goal.returns-clause-expected
returns-clause-expected c =
    let lines = c.self.inside.lines.items in
    let long = ap (λ (r : Rounds). length r.lines) c.self.view_is in
    let as_many = c.requires.lines in
    let within = c.in-Some-queue_consumed.ensures.within in
    let lt : c.in-Some-queue_consumed.queue < length lines = omega (arith, long, as_many, within) in
    expected lines c.in-Some-queue_consumed.queue c.reserve.new.self lt (c.reserve.ensures.same ∙ sym (ap (λ (l : Queue Pick). l.order) (borrowed lines c.in-Some-queue_consumed.queue c.index_mut.result.now lt c.index_mut.ensures.value)))
    c.args.core.now c.args.event.now c.in-Some.consumer c.in_ok-reserve.ensures.room c.in-Some.ensures.newest (subst (λ (r : Rounds). AllAreConsumers c.args.core.now r.lines) (sym c.self.view_is) c.requires.own)
    c.in-Some-queue_consumed.ensures.reported c.in-Some.ensures.numbers
