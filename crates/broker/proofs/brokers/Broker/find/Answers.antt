use Rattle.broker.proofs.Names.{ℕ, refl, sym, subst, IfSome, CanDeliver, Rounds, WithTurn, with_turn, Kept, IsPick, IsPickFrom, pick_from, LinesStay, IsPickedInTurn}
use Rattle.broker.specs.Turns as seen
use Rattle.commands.specs.State.{broker_of}
use Rattle.broker.proofs.Outcomes.{if_some}
use Rattle.broker.proofs.Nearer.{picked_in_turn, lines_stay}
use Rattle.broker.proofs.brokers.Broker.find.Goals as goal

pub returns-clause-none : goal.returns-clause-none
returns-clause-none c = λ e d can.
    let made : CanDeliver (broker_of c.self.inside.core) d = subst (λ (b : WithTurn). CanDeliver (seen.broker_of b) d) (sym c.self.view_is) can in
    let from = pick_from c.self.inside.core d made in
    c.pick-self-inside.ensures.none e from.place (record { connection = d; channel = made.number; number = made.consumer.number }) (record { pick = (made, refl, refl); within = from.within; named = from.named })

pub returns-clause-some : goal.returns-clause-some
returns-clause-some c =
    if_some c.pick-self-inside.result (λ p. (place : ℕ) × IsPickFrom c.self.inside.core place p) (λ p. IsPick (seen.broker_of c.args.self.now) p) (λ p from. subst (λ (b : WithTurn). IsPick (seen.broker_of b) p) c.self.view_is from.1.pick) c.pick-self-inside.ensures.some

pub invariant_of-self : goal.invariant_of-self
invariant_of-self c = record { agreed = c.self.invariant.agreed; kept_so = c.pick-self-inside.ensures.kept }

pub returns-clause-in_turn : goal.returns-clause-in_turn
returns-clause-in_turn c =
    let kept : Kept = c.self.inside.core in
    let before : Rounds = c.self.inside.rounds in
    let after : Rounds = c.pick-self-inside.new.self in
    subst (λ (b : WithTurn). IfSome c.pick-self-inside.result (λ p. IsPickedInTurn b p (with_turn kept after c.pick-self-inside.result))) c.self.view_is
    (picked_in_turn kept before after c.self.inside.turn c.pick-self-inside.result c.self.invariant.kept_so c.pick-self-inside.ensures.picked)

pub returns-clause-stay : goal.returns-clause-stay
returns-clause-stay c = λ none.
    let kept : Kept = c.self.inside.core in
    let before : Rounds = c.self.inside.rounds in
    let after : Rounds = c.pick-self-inside.new.self in
    subst (λ (b : WithTurn). LinesStay b (with_turn kept after c.pick-self-inside.result)) c.self.view_is
    (lines_stay kept before after c.self.inside.turn c.pick-self-inside.result (c.pick-self-inside.ensures.on none))
