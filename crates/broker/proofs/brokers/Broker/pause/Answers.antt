use Rattle.broker.proofs.Names.{[], refl, subst, false≢true, WithTurn, with_turn, NoneIsLater, Pause, same_stay}
use Rattle.commands.specs.State.{broker_of, topology_kept}
use Rattle.commands.specs.declared.acted.Ends.TheVariants as ended
use Rattle.broker.proofs.Joined.{was_there}
use Rattle.broker.proofs.Stepped.{nobody_new, none_come, none_leave, kept_after, round_after}
use Rattle.broker.proofs.Turning.{none_later}
use Rattle.broker.proofs.brokers.Broker.pause.Goals as goal

pub invariant_of-self : goal.invariant_of-self
invariant_of-self c = record {
  agreed = c.brokers_stay_agreed.ensures.acts (topology_kept c.self.inside.core) (broker_of c.self.inside.core) (broker_of c.pause.new.self) (Pause c.args.connection) [] [] c.self.invariant.agreed c.pause.ensures.acts;
  kept_so = kept_after c.self.inside.core c.pause.new.self c.pause.ensures.topology 0 0 ended.Nothing (same_stay (broker_of c.self.inside.core) (broker_of c.pause.new.self) c.pause.ensures.acts.left.channels) c.self.inside.rounds.lines c.self.inside.rounds.lines c.self.invariant.kept_so
      (none_come c.pause.new.self c.self.inside.rounds.lines)
      (Pause c.args.connection) [] [] c.pause.ensures.acts c.ghost_is_kept.ensures.whole c.ghost_is_kept.ensures.placed c.self.inside.rounds.lines c.self.inside.rounds.lines
      (nobody_new c.consumers_are_made.ensures c.self.inside.core c.pause.new.self (Pause c.args.connection) [] [] c.self.inside.rounds.lines c.pause.ensures.acts c.pause.ensures.topology refl c.self.invariant.kept_so)
      (none_leave 0 0 c.self.inside.rounds.lines) (λ at. refl) (λ place p i. i) refl (λ p ch one wants there among same. absurd (false≢true wants));
}

pub returns-clause-later : goal.returns-clause-later
returns-clause-later c =
    subst (λ (b : WithTurn). NoneIsLater b (with_turn c.pause.new.self c.self.inside.rounds c.self.inside.turn)) c.self.view_is
    (none_later c.self.inside.core c.pause.new.self c.self.inside.rounds c.self.inside.rounds c.self.inside.turn c.self.inside.turn c.pause.ensures.topology c.self.invariant.kept_so
    (kept_after c.self.inside.core c.pause.new.self c.pause.ensures.topology 0 0 ended.Nothing (same_stay (broker_of c.self.inside.core) (broker_of c.pause.new.self) c.pause.ensures.acts.left.channels) c.self.inside.rounds.lines c.self.inside.rounds.lines c.self.invariant.kept_so
    (none_come c.pause.new.self c.self.inside.rounds.lines)
    (Pause c.args.connection) [] [] c.pause.ensures.acts c.ghost_is_kept.ensures.whole c.ghost_is_kept.ensures.placed c.self.inside.rounds.lines c.self.inside.rounds.lines
    (nobody_new c.consumers_are_made.ensures c.self.inside.core c.pause.new.self (Pause c.args.connection) [] [] c.self.inside.rounds.lines c.pause.ensures.acts c.pause.ensures.topology refl c.self.invariant.kept_so)
    (none_leave 0 0 c.self.inside.rounds.lines) (λ at. refl) (λ place p i. i) refl (λ p ch one wants there among same. absurd (false≢true wants))).own
    (round_after c.self.inside.core c.pause.new.self c.pause.ensures.topology 0 0 ended.Nothing (same_stay (broker_of c.self.inside.core) (broker_of c.pause.new.self) c.pause.ensures.acts.left.channels) c.self.inside.rounds.lines c.self.inside.rounds.lines c.self.invariant.kept_so
    (none_come c.pause.new.self c.self.inside.rounds.lines)
    (Pause c.args.connection) [] [] c.pause.ensures.acts c.ghost_is_kept.ensures.whole c.ghost_is_kept.ensures.placed c.self.inside.rounds.lines c.self.inside.rounds.lines
    (nobody_new c.consumers_are_made.ensures c.self.inside.core c.pause.new.self (Pause c.args.connection) [] [] c.self.inside.rounds.lines c.pause.ensures.acts c.pause.ensures.topology refl c.self.invariant.kept_so)
    (none_leave 0 0 c.self.inside.rounds.lines) (λ at. refl) (λ place p i. i) refl (λ p ch one wants there among same. absurd (false≢true wants)))
    refl
    (was_there c.consumers_are_made.ensures (topology_kept c.self.inside.core) (broker_of c.self.inside.core) (broker_of c.pause.new.self) (Pause c.args.connection) [] [] c.pause.ensures.acts refl))
