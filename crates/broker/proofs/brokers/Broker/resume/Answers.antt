use Rattle.broker.proofs.Names.{[], refl, sym, subst, Kept, WithTurn, with_turn, NoneIsLater, IsServing, Resume, same_stay, eqb-true}
use Rattle.commands.specs.State.{broker_of, topology_kept}
use Rattle.commands.specs.declared.acted.Ends.TheVariants as ended
use Rattle.broker.proofs.Joined.{was_there}
use Rattle.broker.proofs.Stepped.{nobody_new, none_come, none_leave, kept_after, round_after}
use Rattle.broker.proofs.Turning.{none_later}
use Rattle.broker.proofs.brokers.Broker.resume.Goals as goal

pub invariant_of-self : goal.invariant_of-self
invariant_of-self c = subst (λ (k : Kept). IsServing k c.wake.new.waker) (sym c.wake.ensures.same) (record {
  agreed = c.brokers_stay_agreed.ensures.acts (topology_kept c.self.inside.core) (broker_of c.self.inside.core) (broker_of c.resume.new.self) (Resume c.args.connection) [] [] c.self.invariant.agreed c.resume.ensures.acts;
  kept_so = kept_after c.self.inside.core c.resume.new.self c.resume.ensures.topology 0 0 ended.Nothing (same_stay (broker_of c.self.inside.core) (broker_of c.resume.new.self) c.resume.ensures.acts.left.channels) c.self.inside.rounds.lines c.self.inside.rounds.lines c.self.invariant.kept_so
      (none_come c.resume.new.self c.self.inside.rounds.lines)
      (Resume c.args.connection) [] [] c.resume.ensures.acts c.ghost_is_kept.ensures.whole c.ghost_is_kept.ensures.placed c.self.inside.rounds.lines c.wake.new.waker.lines
      (nobody_new c.consumers_are_made.ensures c.self.inside.core c.resume.new.self (Resume c.args.connection) [] [] c.self.inside.rounds.lines c.resume.ensures.acts c.resume.ensures.topology refl c.self.invariant.kept_so)
      (none_leave 0 0 c.self.inside.rounds.lines) (c.wake.ensures.on c.self.inside.rounds (record { len = refl; same = λ at. refl; next = refl }, λ place p i. i)).0.same (c.wake.ensures.on c.self.inside.rounds (record { len = refl; same = λ at. refl; next = refl }, λ place p i. i)).1 (c.wake.ensures.on c.self.inside.rounds (record { len = refl; same = λ at. refl; next = refl }, λ place p i. i)).0.len (λ p ch one wants there among same. c.wake.ensures.awake p ch one (eqb-true p.connection c.args.connection wants) refl there among same);
})

pub returns-clause-later : goal.returns-clause-later
returns-clause-later c =
    subst (λ (k : Kept). NoneIsLater c.args.self.now (with_turn k c.wake.new.waker c.self.inside.turn)) (sym c.wake.ensures.same)
    (
    subst (λ (b : WithTurn). NoneIsLater b (with_turn c.resume.new.self c.wake.new.waker c.self.inside.turn)) c.self.view_is
    (none_later c.self.inside.core c.resume.new.self c.self.inside.rounds c.wake.new.waker c.self.inside.turn c.self.inside.turn c.resume.ensures.topology c.self.invariant.kept_so
    (kept_after c.self.inside.core c.resume.new.self c.resume.ensures.topology 0 0 ended.Nothing (same_stay (broker_of c.self.inside.core) (broker_of c.resume.new.self) c.resume.ensures.acts.left.channels) c.self.inside.rounds.lines c.self.inside.rounds.lines c.self.invariant.kept_so
    (none_come c.resume.new.self c.self.inside.rounds.lines)
    (Resume c.args.connection) [] [] c.resume.ensures.acts c.ghost_is_kept.ensures.whole c.ghost_is_kept.ensures.placed c.self.inside.rounds.lines c.wake.new.waker.lines
    (nobody_new c.consumers_are_made.ensures c.self.inside.core c.resume.new.self (Resume c.args.connection) [] [] c.self.inside.rounds.lines c.resume.ensures.acts c.resume.ensures.topology refl c.self.invariant.kept_so)
    (none_leave 0 0 c.self.inside.rounds.lines) (c.wake.ensures.on c.self.inside.rounds (record { len = refl; same = λ at. refl; next = refl }, λ place p i. i)).0.same (c.wake.ensures.on c.self.inside.rounds (record { len = refl; same = λ at. refl; next = refl }, λ place p i. i)).1 (c.wake.ensures.on c.self.inside.rounds (record { len = refl; same = λ at. refl; next = refl }, λ place p i. i)).0.len (λ p ch one wants there among same. c.wake.ensures.awake p ch one (eqb-true p.connection c.args.connection wants) refl there among same)).own
    (round_after c.self.inside.core c.resume.new.self c.resume.ensures.topology 0 0 ended.Nothing (same_stay (broker_of c.self.inside.core) (broker_of c.resume.new.self) c.resume.ensures.acts.left.channels) c.self.inside.rounds.lines c.self.inside.rounds.lines c.self.invariant.kept_so
    (none_come c.resume.new.self c.self.inside.rounds.lines)
    (Resume c.args.connection) [] [] c.resume.ensures.acts c.ghost_is_kept.ensures.whole c.ghost_is_kept.ensures.placed c.self.inside.rounds.lines c.wake.new.waker.lines
    (nobody_new c.consumers_are_made.ensures c.self.inside.core c.resume.new.self (Resume c.args.connection) [] [] c.self.inside.rounds.lines c.resume.ensures.acts c.resume.ensures.topology refl c.self.invariant.kept_so)
    (none_leave 0 0 c.self.inside.rounds.lines) (c.wake.ensures.on c.self.inside.rounds (record { len = refl; same = λ at. refl; next = refl }, λ place p i. i)).0.same (c.wake.ensures.on c.self.inside.rounds (record { len = refl; same = λ at. refl; next = refl }, λ place p i. i)).1 (c.wake.ensures.on c.self.inside.rounds (record { len = refl; same = λ at. refl; next = refl }, λ place p i. i)).0.len (λ p ch one wants there among same. c.wake.ensures.awake p ch one (eqb-true p.connection c.args.connection wants) refl there among same))
    (c.wake.ensures.on c.self.inside.rounds (record { len = refl; same = λ at. refl; next = refl }, λ place p i. i)).0.next
    (was_there c.consumers_are_made.ensures (topology_kept c.self.inside.core) (broker_of c.self.inside.core) (broker_of c.resume.new.self) (Resume c.args.connection) [] [] c.resume.ensures.acts refl))
    )
