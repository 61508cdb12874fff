use Rattle.broker.proofs.Names.{[], refl, subst, false≢true, WithTurn, with_turn, NoneIsLater, Lose}
use Rattle.commands.specs.State.{broker_of, topology_kept}
use Rattle.commands.specs.declared.acted.Ends.TheVariants as ended
use Rattle.broker.proofs.Joined.{was_there}
use Rattle.broker.proofs.Stepped.{nobody_new, none_come, kept_after, round_after, named_after, came_once}
use Rattle.broker.proofs.Turning.{none_later}
use Rattle.broker.proofs.brokers.Broker.lose.Goals as goal

pub leave-requires-clause-named : goal.leave-requires-clause-named
leave-requires-clause-named c =
    named_after c.self.inside.core c.lose-before.new.self c.lose-before.ensures.topology c.args.connection 0 (ended.Connection c.lose-before.result) c.lose-before.ensures.ended c.self.inside.rounds.lines c.self.inside.rounds.lines c.self.invariant.kept_so
    (none_come c.lose-before.new.self c.self.inside.rounds.lines)
    c.ghost_is_kept.ensures.whole c.ghost_is_kept.ensures.placed

pub leave-requires-clause-once : goal.leave-requires-clause-once
leave-requires-clause-once c =
    came_once c.self.inside.core c.lose-before.new.self c.lose-before.ensures.topology c.args.connection 0 (ended.Connection c.lose-before.result) c.lose-before.ensures.ended c.self.inside.rounds.lines c.self.inside.rounds.lines c.self.invariant.kept_so
    (none_come c.lose-before.new.self c.self.inside.rounds.lines)

pub invariant_of-self : goal.invariant_of-self
invariant_of-self c = record {
  agreed = c.brokers_stay_agreed.ensures.acts (topology_kept c.self.inside.core) (broker_of c.self.inside.core) (broker_of c.lose-before.new.self) (Lose c.args.connection) [] [] c.self.invariant.agreed c.lose-before.ensures.acts;
  kept_so = kept_after c.self.inside.core c.lose-before.new.self c.lose-before.ensures.topology c.args.connection 0 (ended.Connection c.lose-before.result) c.lose-before.ensures.ended c.self.inside.rounds.lines c.self.inside.rounds.lines c.self.invariant.kept_so
      (none_come c.lose-before.new.self c.self.inside.rounds.lines)
      (Lose c.args.connection) [] [] c.lose-before.ensures.acts c.ghost_is_kept-2.ensures.whole c.ghost_is_kept-2.ensures.placed c.leave.new.self.lines c.leave.new.self.lines
      (nobody_new c.consumers_are_made.ensures c.self.inside.core c.lose-before.new.self (Lose c.args.connection) [] [] c.self.inside.rounds.lines c.lose-before.ensures.acts c.lose-before.ensures.topology refl c.self.invariant.kept_so)
      c.leave.ensures.left (λ at. refl) c.leave.ensures.asleep c.leave.ensures.len (λ p ch one wants there among same. absurd (false≢true wants));
}

pub returns-clause-later : goal.returns-clause-later
returns-clause-later c =
    subst (λ (b : WithTurn). NoneIsLater b (with_turn c.lose-before.new.self c.leave.new.self c.self.inside.turn)) c.self.view_is
    (none_later c.self.inside.core c.lose-before.new.self c.self.inside.rounds c.leave.new.self c.self.inside.turn c.self.inside.turn c.lose-before.ensures.topology c.self.invariant.kept_so
    (kept_after c.self.inside.core c.lose-before.new.self c.lose-before.ensures.topology c.args.connection 0 (ended.Connection c.lose-before.result) c.lose-before.ensures.ended c.self.inside.rounds.lines c.self.inside.rounds.lines c.self.invariant.kept_so
    (none_come c.lose-before.new.self c.self.inside.rounds.lines)
    (Lose c.args.connection) [] [] c.lose-before.ensures.acts c.ghost_is_kept-2.ensures.whole c.ghost_is_kept-2.ensures.placed c.leave.new.self.lines c.leave.new.self.lines
    (nobody_new c.consumers_are_made.ensures c.self.inside.core c.lose-before.new.self (Lose c.args.connection) [] [] c.self.inside.rounds.lines c.lose-before.ensures.acts c.lose-before.ensures.topology refl c.self.invariant.kept_so)
    c.leave.ensures.left (λ at. refl) c.leave.ensures.asleep c.leave.ensures.len (λ p ch one wants there among same. absurd (false≢true wants))).own
    (round_after c.self.inside.core c.lose-before.new.self c.lose-before.ensures.topology c.args.connection 0 (ended.Connection c.lose-before.result) c.lose-before.ensures.ended c.self.inside.rounds.lines c.self.inside.rounds.lines c.self.invariant.kept_so
    (none_come c.lose-before.new.self c.self.inside.rounds.lines)
    (Lose c.args.connection) [] [] c.lose-before.ensures.acts c.ghost_is_kept-2.ensures.whole c.ghost_is_kept-2.ensures.placed c.leave.new.self.lines c.leave.new.self.lines
    (nobody_new c.consumers_are_made.ensures c.self.inside.core c.lose-before.new.self (Lose c.args.connection) [] [] c.self.inside.rounds.lines c.lose-before.ensures.acts c.lose-before.ensures.topology refl c.self.invariant.kept_so)
    c.leave.ensures.left (λ at. refl) c.leave.ensures.asleep c.leave.ensures.len (λ p ch one wants there among same. absurd (false≢true wants)))
    c.leave.ensures.next
    (was_there c.consumers_are_made.ensures (topology_kept c.self.inside.core) (broker_of c.self.inside.core) (broker_of c.lose-before.new.self) (Lose c.args.connection) [] [] c.lose-before.ensures.acts refl))
