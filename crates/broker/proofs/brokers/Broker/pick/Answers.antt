use Rattle.broker.proofs.Names.{◌∙◌, inl, refl, sym, ap, subst, IsPick, WithTurn, AllInLine}
use Rattle.broker.specs.Turns.{broker_of}
use Rattle.broker.proofs.Turning.{all_in_line}
use Rattle.broker.proofs.brokers.Broker.pick.Goals as goal

pub returns-in-Some-clause-some : goal.returns-in-Some-clause-some
returns-in-Some-clause-some c = subst (λ (b : WithTurn). IsPick (broker_of b) c.in-Some.pick) c.self.view_is c.in-Some.ensures.some

pub returns-in-None-clause-again : goal.returns-in-None-clause-again
returns-in-None-clause-again c = λ p is pick.
    absurd (c.in-None.ensures.none refl p (ap (λ (b : WithTurn). b.turn) c.self.view_is ∙ is) (subst (λ (b : WithTurn). IsPick (broker_of b) p) (sym c.self.view_is) pick))

pub returns-in-Some-clause-complete : goal.returns-in-Some-clause-complete
returns-in-Some-clause-complete c =
    subst AllInLine c.self.view_is (all_in_line c.self.inside.core c.self.inside.rounds c.self.inside.turn c.self.invariant.kept_so)

pub returns-in-None-clause-complete : goal.returns-in-None-clause-complete
returns-in-None-clause-complete c =
    subst AllInLine c.self.view_is (all_in_line c.self.inside.core c.self.inside.rounds c.self.inside.turn c.self.invariant.kept_so)

-- the same is told again
pub returns-in-Some-clause-in_turn : goal.returns-in-Some-clause-in_turn
returns-in-Some-clause-in_turn c = inl (ap (λ (b : WithTurn). b.turn) (sym c.self.view_is) ∙ c.in-Some.ensures.same, record { next = refl; lines = λ place. refl })
