use Rattle.broker.proofs.Names.{[], refl, sym, subst, false≢true, Kept, WithTurn, with_turn, NoneIsLater, IsServing}
use Rattle.commands.specs.State.{broker_of, topology_kept}
use Rattle.model.specs.declared.events.Event.TheVariants.{Running}
use Rattle.commands.specs.declared.acted.Ends.TheVariants as ended
use Rattle.broker.proofs.Joined.{was_there}
use Rattle.broker.proofs.Stepped.{nobody_new, none_come, kept_after, round_after, named_after, came_once}
use Rattle.broker.proofs.Turning.{none_later}
use Rattle.broker.proofs.brokers.Broker.open.Goals as goal

-- after an allocation failure
pub invariant_of-self : goal.invariant_of-self
invariant_of-self c = subst (λ (k : Kept). IsServing k c.self.inside.rounds) (sym c.in_err-before.ensures.err) c.self.invariant

pub leave-requires-clause-named : goal.leave-requires-clause-named
leave-requires-clause-named c =
    named_after c.self.inside.core c.open.new.self c.open.ensures.topology c.args.connection 0 (ended.Connection c.in_ok-before.before) c.in_ok-before.ensures.ended c.self.inside.rounds.lines c.self.inside.rounds.lines c.self.invariant.kept_so
    (none_come c.open.new.self c.self.inside.rounds.lines)
    c.ghost_is_kept.ensures.whole c.ghost_is_kept.ensures.placed

pub leave-requires-clause-once : goal.leave-requires-clause-once
leave-requires-clause-once c =
    came_once c.self.inside.core c.open.new.self c.open.ensures.topology c.args.connection 0 (ended.Connection c.in_ok-before.before) c.in_ok-before.ensures.ended c.self.inside.rounds.lines c.self.inside.rounds.lines c.self.invariant.kept_so
    (none_come c.open.new.self c.self.inside.rounds.lines)

-- where it runs
pub invariant_of-self-2 : goal.invariant_of-self-2
invariant_of-self-2 c = record {
  agreed = c.brokers_stay_agreed.ensures.acts (topology_kept c.self.inside.core) (broker_of c.self.inside.core) (broker_of c.open.new.self) (Running c.args.connection c.args.channel_max c.args.channels) [] [] c.self.invariant.agreed c.in_ok-before.ensures.ok;
  kept_so = kept_after c.self.inside.core c.open.new.self c.open.ensures.topology c.args.connection 0 (ended.Connection c.in_ok-before.before) c.in_ok-before.ensures.ended c.self.inside.rounds.lines c.self.inside.rounds.lines c.self.invariant.kept_so
      (none_come c.open.new.self c.self.inside.rounds.lines)
      (Running c.args.connection c.args.channel_max c.args.channels) [] [] c.in_ok-before.ensures.ok c.ghost_is_kept-2.ensures.whole c.ghost_is_kept-2.ensures.placed c.leave.new.self.lines c.leave.new.self.lines
      (nobody_new c.consumers_are_made.ensures c.self.inside.core c.open.new.self (Running c.args.connection c.args.channel_max c.args.channels) [] [] c.self.inside.rounds.lines c.in_ok-before.ensures.ok c.open.ensures.topology refl c.self.invariant.kept_so)
      c.leave.ensures.left (λ at. refl) c.leave.ensures.asleep c.leave.ensures.len (λ p ch one wants there among same. absurd (false≢true wants));
}

pub returns-clause-later : goal.returns-clause-later
returns-clause-later c =
    subst (λ (b : WithTurn). NoneIsLater b (with_turn c.open.new.self c.leave.new.self c.self.inside.turn)) c.self.view_is
    (none_later c.self.inside.core c.open.new.self c.self.inside.rounds c.leave.new.self c.self.inside.turn c.self.inside.turn c.open.ensures.topology c.self.invariant.kept_so
    (kept_after c.self.inside.core c.open.new.self c.open.ensures.topology c.args.connection 0 (ended.Connection c.in_ok-before.before) c.in_ok-before.ensures.ended c.self.inside.rounds.lines c.self.inside.rounds.lines c.self.invariant.kept_so
    (none_come c.open.new.self c.self.inside.rounds.lines)
    (Running c.args.connection c.args.channel_max c.args.channels) [] [] c.in_ok-before.ensures.ok c.ghost_is_kept-2.ensures.whole c.ghost_is_kept-2.ensures.placed c.leave.new.self.lines c.leave.new.self.lines
    (nobody_new c.consumers_are_made.ensures c.self.inside.core c.open.new.self (Running c.args.connection c.args.channel_max c.args.channels) [] [] c.self.inside.rounds.lines c.in_ok-before.ensures.ok c.open.ensures.topology refl c.self.invariant.kept_so)
    c.leave.ensures.left (λ at. refl) c.leave.ensures.asleep c.leave.ensures.len (λ p ch one wants there among same. absurd (false≢true wants))).own
    (round_after c.self.inside.core c.open.new.self c.open.ensures.topology c.args.connection 0 (ended.Connection c.in_ok-before.before) c.in_ok-before.ensures.ended c.self.inside.rounds.lines c.self.inside.rounds.lines c.self.invariant.kept_so
    (none_come c.open.new.self c.self.inside.rounds.lines)
    (Running c.args.connection c.args.channel_max c.args.channels) [] [] c.in_ok-before.ensures.ok c.ghost_is_kept-2.ensures.whole c.ghost_is_kept-2.ensures.placed c.leave.new.self.lines c.leave.new.self.lines
    (nobody_new c.consumers_are_made.ensures c.self.inside.core c.open.new.self (Running c.args.connection c.args.channel_max c.args.channels) [] [] c.self.inside.rounds.lines c.in_ok-before.ensures.ok c.open.ensures.topology refl c.self.invariant.kept_so)
    c.leave.ensures.left (λ at. refl) c.leave.ensures.asleep c.leave.ensures.len (λ p ch one wants there among same. absurd (false≢true wants)))
    c.leave.ensures.next
    (was_there c.consumers_are_made.ensures (topology_kept c.self.inside.core) (broker_of c.self.inside.core) (broker_of c.open.new.self) (Running c.args.connection c.args.channel_max c.args.channels) [] [] c.in_ok-before.ensures.ok refl))
