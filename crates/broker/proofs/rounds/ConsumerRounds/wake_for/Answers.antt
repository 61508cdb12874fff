use Rattle.broker.proofs.Names.{◌∙◌, refl, ap, sym, ◌==◌, ◌&&◌, eqb-true, Event, wakes, wakes_on}
use Rattle.broker.proofs.Waking.{both}
use Rattle.broker.proofs.rounds.ConsumerRounds.wake_for.Goals as goal

pub returns-then-wakes_on-clause-awake : goal.returns-then-wakes_on-clause-awake
returns-then-wakes_on-clause-awake c = λ p ch k woken there among same.
    let reported = sym (ap (λ (e : Event). wakes e p) c.in-Command.is) ∙ woken in
    let its = both (wakes_on c.in-Command.method) ((p.connection == c.in-Command.connection) && (p.channel == c.in-Command.channel)) reported in
    let here = both (p.connection == c.in-Command.connection) (p.channel == c.in-Command.channel) its.1 in
    c.wake.ensures.awake p ch k (eqb-true p.connection c.in-Command.connection here.0) here.1 there among same

pub returns-then-wakes_on-clause-on : goal.returns-then-wakes_on-clause-on
returns-then-wakes_on-clause-on c = (c.wake.ensures.on c.args.self.now (record { len = refl; same = λ at. refl; next = refl }, λ place p i. i)).0

pub returns-then-wakes_on-clause-asleep : goal.returns-then-wakes_on-clause-asleep
returns-then-wakes_on-clause-asleep c = (c.wake.ensures.on c.args.self.now (record { len = refl; same = λ at. refl; next = refl }, λ place p i. i)).1

pub returns-in-Resume-clause-awake : goal.returns-in-Resume-clause-awake
returns-in-Resume-clause-awake c = λ p ch k woken there among same.
    c.wake-in-Resume.ensures.awake p ch k (eqb-true p.connection c.in-Resume.connection (sym (ap (λ (e : Event). wakes e p) c.in-Resume.is) ∙ woken)) refl there among same

pub returns-in-Resume-clause-on : goal.returns-in-Resume-clause-on
returns-in-Resume-clause-on c = (c.wake-in-Resume.ensures.on c.args.self.now (record { len = refl; same = λ at. refl; next = refl }, λ place p i. i)).0

pub returns-in-Resume-clause-asleep : goal.returns-in-Resume-clause-asleep
returns-in-Resume-clause-asleep c = (c.wake-in-Resume.ensures.on c.args.self.now (record { len = refl; same = λ at. refl; next = refl }, λ place p i. i)).1
