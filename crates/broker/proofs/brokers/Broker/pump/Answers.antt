use Rattle.broker.proofs.Names.{None, refl, sym, subst, false≢true, Kept, WithTurn, with_turn, NoneIsLater, IsServing, Deliver, IsPick}
use Rattle.commands.specs.State.{broker_of, topology_kept}
use Rattle.broker.specs.Turns as seen
use Rattle.commands.specs.declared.acted.Ends.TheVariants as ended
use Rattle.broker.proofs.Joined.{was_there}
use Rattle.broker.proofs.Staying.{delivery_stays}
use Rattle.broker.proofs.Stepped.{nobody_new, none_come, none_leave, kept_after, round_after}
use Rattle.broker.proofs.Turning.{none_later}
use Rattle.broker.proofs.Waits.{serves_soon}
use Rattle.broker.proofs.brokers.Broker.pump.Goals as goal

pub deliver-requires-clause-picked : goal.deliver-requires-clause-picked
deliver-requires-clause-picked c = subst (λ (b : WithTurn). IsPick (seen.broker_of b) c.args.pick) (sym c.self.view_is) c.requires

-- after an allocation failure
pub invariant_of-self : goal.invariant_of-self
invariant_of-self c = subst (λ (k : Kept). IsServing k c.self.inside.rounds) (sym c.in_err-step.ensures.err) c.self.invariant

-- where the delivery is made
pub invariant_of-self-2 : goal.invariant_of-self-2
invariant_of-self-2 c = record {
  agreed = c.brokers_stay_agreed.ensures.acts (topology_kept c.self.inside.core) (broker_of c.self.inside.core) (broker_of c.deliver.new.self) (Deliver c.args.pick.connection) c.in_ok-step.step.sends.items c.in_ok-step.step.notes.items c.self.invariant.agreed c.in_ok-step.ensures.ok.delivery;
  kept_so = kept_after c.self.inside.core c.deliver.new.self c.deliver.ensures.topology 0 0 ended.Nothing (delivery_stays (broker_of c.self.inside.core) (broker_of c.deliver.new.self) c.args.pick.connection _ _ c.in_ok-step.ensures.ok.delivery) c.self.inside.rounds.lines c.self.inside.rounds.lines c.self.invariant.kept_so
      (none_come c.deliver.new.self c.self.inside.rounds.lines)
      (Deliver c.args.pick.connection) c.in_ok-step.step.sends.items c.in_ok-step.step.notes.items c.in_ok-step.ensures.ok.delivery c.ghost_is_kept.ensures.whole c.ghost_is_kept.ensures.placed c.self.inside.rounds.lines c.self.inside.rounds.lines
      (nobody_new c.consumers_are_made.ensures c.self.inside.core c.deliver.new.self (Deliver c.args.pick.connection) c.in_ok-step.step.sends.items c.in_ok-step.step.notes.items c.self.inside.rounds.lines c.in_ok-step.ensures.ok.delivery c.deliver.ensures.topology refl c.self.invariant.kept_so)
      (none_leave 0 0 c.self.inside.rounds.lines) (λ at. refl) (λ place p i. i) refl (λ p ch one wants there among same. absurd (false≢true wants));
}

pub returns-clause-addressed : goal.returns-clause-addressed
returns-clause-addressed c = rw (← c.self.view_is) c.in_ok-step.ensures.addressed

pub returns-clause-later : goal.returns-clause-later
returns-clause-later c =
    subst (λ (b : WithTurn). NoneIsLater b (with_turn c.deliver.new.self c.self.inside.rounds None)) c.self.view_is
    (none_later c.self.inside.core c.deliver.new.self c.self.inside.rounds c.self.inside.rounds c.self.inside.turn None c.deliver.ensures.topology c.self.invariant.kept_so
    (kept_after c.self.inside.core c.deliver.new.self c.deliver.ensures.topology 0 0 ended.Nothing (delivery_stays (broker_of c.self.inside.core) (broker_of c.deliver.new.self) c.args.pick.connection _ _ c.in_ok-step.ensures.ok.delivery) c.self.inside.rounds.lines c.self.inside.rounds.lines c.self.invariant.kept_so
    (none_come c.deliver.new.self c.self.inside.rounds.lines)
    (Deliver c.args.pick.connection) c.in_ok-step.step.sends.items c.in_ok-step.step.notes.items c.in_ok-step.ensures.ok.delivery c.ghost_is_kept.ensures.whole c.ghost_is_kept.ensures.placed c.self.inside.rounds.lines c.self.inside.rounds.lines
    (nobody_new c.consumers_are_made.ensures c.self.inside.core c.deliver.new.self (Deliver c.args.pick.connection) c.in_ok-step.step.sends.items c.in_ok-step.step.notes.items c.self.inside.rounds.lines c.in_ok-step.ensures.ok.delivery c.deliver.ensures.topology refl c.self.invariant.kept_so)
    (none_leave 0 0 c.self.inside.rounds.lines) (λ at. refl) (λ place p i. i) refl (λ p ch one wants there among same. absurd (false≢true wants))).own
    (round_after c.self.inside.core c.deliver.new.self c.deliver.ensures.topology 0 0 ended.Nothing (delivery_stays (broker_of c.self.inside.core) (broker_of c.deliver.new.self) c.args.pick.connection _ _ c.in_ok-step.ensures.ok.delivery) c.self.inside.rounds.lines c.self.inside.rounds.lines c.self.invariant.kept_so
    (none_come c.deliver.new.self c.self.inside.rounds.lines)
    (Deliver c.args.pick.connection) c.in_ok-step.step.sends.items c.in_ok-step.step.notes.items c.in_ok-step.ensures.ok.delivery c.ghost_is_kept.ensures.whole c.ghost_is_kept.ensures.placed c.self.inside.rounds.lines c.self.inside.rounds.lines
    (nobody_new c.consumers_are_made.ensures c.self.inside.core c.deliver.new.self (Deliver c.args.pick.connection) c.in_ok-step.step.sends.items c.in_ok-step.step.notes.items c.self.inside.rounds.lines c.in_ok-step.ensures.ok.delivery c.deliver.ensures.topology refl c.self.invariant.kept_so)
    (none_leave 0 0 c.self.inside.rounds.lines) (λ at. refl) (λ place p i. i) refl (λ p ch one wants there among same. absurd (false≢true wants)))
    refl
    (was_there c.consumers_are_made.ensures (topology_kept c.self.inside.core) (broker_of c.self.inside.core) (broker_of c.deliver.new.self) (Deliver c.args.pick.connection) c.in_ok-step.step.sends.items c.in_ok-step.step.notes.items c.in_ok-step.ensures.ok.delivery refl))

pub returns-clause-soon : goal.returns-clause-soon
returns-clause-soon c = serves_soon c.args.self.now c.args.pick
