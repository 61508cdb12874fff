use Rattle.broker.proofs.Names.{◌∙◌, ℕ, Some, sym, ap, subst, Kept, CannotTake, channel_of, connection_of_event, ReportsEnds, IsServing, IsNotAsleepAt, WithTurn, with_turn, NobodyIsPutBack}
use Rattle.std.proofs.Common.{◌≡◌, ◌⊎◌}
use Rattle.commands.specs.State.{broker_of, topology_kept}
use Rattle.broker.proofs.Counting.{line_counted}
use Rattle.broker.proofs.Outcomes.{on_err}
use Rattle.broker.proofs.Stepped.{orders_of, asleep_of, kept_same, somebody_new, adds_since, kept_after, round_after, named_after, came_once}
use Rattle.broker.proofs.Turning.{same_turns, none_back, waiters_own}
use Rattle.broker.proofs.brokers.Broker.step.Goals as goal

pub returns-clause-addressed : goal.returns-clause-addressed
returns-clause-addressed c = rw (← c.self.view_is) c.in_ok-acted.ensures.addressed

-- if an allocation fails for the newcomer, or for the step
pub invariant_of-self : goal.invariant_of-self
invariant_of-self c = record {
  agreed = c.self.invariant.agreed;
  kept_so = kept_same c.self.inside.core c.self.inside.rounds.lines c.expect_next.new.self.lines c.expect_next.ensures.same c.expect_next.ensures.len c.self.invariant.kept_so;
}

pub invariant_of-self-in_err-acted : goal.invariant_of-self-in_err-acted
invariant_of-self-in_err-acted c = subst (λ (k : Kept). IsServing k c.expect_next.new.self) (sym c.in_err-acted.ensures.err) (record {
  agreed = c.self.invariant.agreed;
  kept_so = kept_same c.self.inside.core c.self.inside.rounds.lines c.expect_next.new.self.lines c.expect_next.ensures.same c.expect_next.ensures.len c.self.invariant.kept_so;
})

-- those who leave are named
pub leave-requires-clause-named : goal.leave-requires-clause-named
leave-requires-clause-named c =
    named_after c.self.inside.core c.step.new.self c.step.ensures.topology c.connection_of.result c.channel_of.result c.in_ok-acted.acted.ends
    (subst (λ (n : ℕ). ReportsEnds n c.channel_of.result c.in_ok-acted.acted.ends c.self.inside.core c.step.new.self) (sym c.connection_of.ensures)
    (subst (λ (n : ℕ). ReportsEnds (connection_of_event c.args.event.now) n c.in_ok-acted.acted.ends c.self.inside.core c.step.new.self) (sym c.channel_of.ensures) c.in_ok-acted.ensures.ended))
    c.self.inside.rounds.lines c.join.new.self.lines c.self.invariant.kept_so
    (adds_since c.step.new.self c.self.inside.rounds.lines c.expect_next.new.self.lines c.join.new.self.lines (orders_of c.self.inside.rounds.lines c.expect_next.new.self.lines c.expect_next.ensures.same) c.join.ensures.adds)
    c.ghost_is_kept.ensures.whole c.ghost_is_kept.ensures.placed

pub leave-requires-clause-once : goal.leave-requires-clause-once
leave-requires-clause-once c =
    came_once c.self.inside.core c.step.new.self c.step.ensures.topology c.connection_of.result c.channel_of.result c.in_ok-acted.acted.ends
    (subst (λ (n : ℕ). ReportsEnds n c.channel_of.result c.in_ok-acted.acted.ends c.self.inside.core c.step.new.self) (sym c.connection_of.ensures)
    (subst (λ (n : ℕ). ReportsEnds (connection_of_event c.args.event.now) n c.in_ok-acted.acted.ends c.self.inside.core c.step.new.self) (sym c.channel_of.ensures) c.in_ok-acted.ensures.ended))
    c.self.inside.rounds.lines c.join.new.self.lines c.self.invariant.kept_so
    (adds_since c.step.new.self c.self.inside.rounds.lines c.expect_next.new.self.lines c.join.new.self.lines (orders_of c.self.inside.rounds.lines c.expect_next.new.self.lines c.expect_next.ensures.same) c.join.ensures.adds)

-- where the step is made
pub invariant_of-self-2 : goal.invariant_of-self-2
invariant_of-self-2 c = subst (λ (k : Kept). IsServing k c.wake_for.new.self) (sym (c.wake_for.ensures.core ∙ c.join.ensures.core)) (record {
  agreed = c.brokers_stay_agreed.ensures.acts (topology_kept c.self.inside.core) (broker_of c.self.inside.core) (broker_of c.step.new.self) c.args.event.now c.in_ok-acted.acted.step.sends.items c.in_ok-acted.acted.step.notes.items c.self.invariant.agreed c.in_ok-acted.ensures.ok;
  kept_so = kept_after c.self.inside.core c.step.new.self c.step.ensures.topology c.connection_of.result c.channel_of.result c.in_ok-acted.acted.ends
      (subst (λ (n : ℕ). ReportsEnds n c.channel_of.result c.in_ok-acted.acted.ends c.self.inside.core c.step.new.self) (sym c.connection_of.ensures)
      (subst (λ (n : ℕ). ReportsEnds (connection_of_event c.args.event.now) n c.in_ok-acted.acted.ends c.self.inside.core c.step.new.self) (sym c.channel_of.ensures) c.in_ok-acted.ensures.ended))
      c.self.inside.rounds.lines c.join.new.self.lines c.self.invariant.kept_so
      (adds_since c.step.new.self c.self.inside.rounds.lines c.expect_next.new.self.lines c.join.new.self.lines (orders_of c.self.inside.rounds.lines c.expect_next.new.self.lines c.expect_next.ensures.same) c.join.ensures.adds)
      c.args.event.now c.in_ok-acted.acted.step.sends.items c.in_ok-acted.acted.step.notes.items c.in_ok-acted.ensures.ok c.ghost_is_kept-2.ensures.whole c.ghost_is_kept-2.ensures.placed c.leave.new.self.lines c.wake_for.new.self.lines
      (somebody_new c.consumers_are_made.ensures c.self.inside.core c.step.new.self c.args.event.now c.in_ok-acted.acted.step.sends.items c.in_ok-acted.acted.step.notes.items c.self.inside.rounds.lines c.expect_next.new.self.lines c.join.new.self.lines c.in_ok-newcomer.newcomer c.in_ok-acted.ensures.ok c.step.ensures.topology
      c.self.invariant.kept_so (orders_of c.self.inside.rounds.lines c.expect_next.new.self.lines c.expect_next.ensures.same) c.in_ok-newcomer.ensures.expected c.join.ensures.adds c.join.ensures.joined)
      c.leave.ensures.left c.wake_for.ensures.on.same
      (λ place p i. asleep_of c.self.inside.rounds.lines c.expect_next.new.self.lines c.expect_next.ensures.same place p (c.join.ensures.asleep place p (c.leave.ensures.asleep place p (c.wake_for.ensures.asleep place p i))))
      (c.wake_for.ensures.on.len ∙ c.leave.ensures.len ∙ c.join.ensures.len ∙ c.expect_next.ensures.len)
      (λ p ch one wants there among same.
      subst (λ (k : Kept). IsNotAsleepAt c.wake_for.new.self.lines one.queue p ⊎ CannotTake (broker_of k) p) c.join.ensures.core
      (c.wake_for.ensures.awake p ch one wants (subst (λ (k : Kept). channel_of k.connections p.connection p.channel ≡ Some ch) (sym c.join.ensures.core) there) among same));
})

-- all go on as before where it fails
pub returns-in_err-newcomer-clause-err : goal.returns-in_err-newcomer-clause-err
returns-in_err-newcomer-clause-err c =
    on_err c.from_residual.result
    (same_turns c.self.inside.core c.self.inside.rounds c.expect_next.new.self c.self.inside.turn
    (record { len = c.expect_next.ensures.len; same = orders_of c.self.inside.rounds.lines c.expect_next.new.self.lines c.expect_next.ensures.same; next = c.expect_next.ensures.next }) ∙ c.self.view_is)

pub returns-in_err-acted-clause-err : goal.returns-in_err-acted-clause-err
returns-in_err-acted-clause-err c =
    on_err c.from_residual-in_err-acted.result
    (ap (λ (k : Kept). with_turn k c.expect_next.new.self c.self.inside.turn) c.in_err-acted.ensures.err
    ∙ same_turns c.self.inside.core c.self.inside.rounds c.expect_next.new.self c.self.inside.turn
    (record { len = c.expect_next.ensures.len; same = orders_of c.self.inside.rounds.lines c.expect_next.new.self.lines c.expect_next.ensures.same; next = c.expect_next.ensures.next }) ∙ c.self.view_is)

-- nobody's turn is further off
pub returns-clause-later : goal.returns-clause-later
returns-clause-later c =
    subst (λ (b : WithTurn). NobodyIsPutBack b (with_turn c.wake_for.new.core c.wake_for.new.self c.self.inside.turn)) c.self.view_is
    (subst (λ (k : Kept). NobodyIsPutBack (with_turn c.self.inside.core c.self.inside.rounds c.self.inside.turn) (with_turn k c.wake_for.new.self c.self.inside.turn)) (sym (c.wake_for.ensures.core ∙ c.join.ensures.core))
    (none_back c.self.inside.core c.step.new.self c.self.inside.rounds c.wake_for.new.self c.self.inside.turn c.self.inside.turn c.step.ensures.topology c.self.invariant.kept_so
    (kept_after c.self.inside.core c.step.new.self c.step.ensures.topology c.connection_of.result c.channel_of.result c.in_ok-acted.acted.ends
    (subst (λ (n : ℕ). ReportsEnds n c.channel_of.result c.in_ok-acted.acted.ends c.self.inside.core c.step.new.self) (sym c.connection_of.ensures)
    (subst (λ (n : ℕ). ReportsEnds (connection_of_event c.args.event.now) n c.in_ok-acted.acted.ends c.self.inside.core c.step.new.self) (sym c.channel_of.ensures) c.in_ok-acted.ensures.ended))
    c.self.inside.rounds.lines c.join.new.self.lines c.self.invariant.kept_so
    (adds_since c.step.new.self c.self.inside.rounds.lines c.expect_next.new.self.lines c.join.new.self.lines (orders_of c.self.inside.rounds.lines c.expect_next.new.self.lines c.expect_next.ensures.same) c.join.ensures.adds)
    c.args.event.now c.in_ok-acted.acted.step.sends.items c.in_ok-acted.acted.step.notes.items c.in_ok-acted.ensures.ok c.ghost_is_kept-2.ensures.whole c.ghost_is_kept-2.ensures.placed c.leave.new.self.lines c.wake_for.new.self.lines
    (somebody_new c.consumers_are_made.ensures c.self.inside.core c.step.new.self c.args.event.now c.in_ok-acted.acted.step.sends.items c.in_ok-acted.acted.step.notes.items c.self.inside.rounds.lines c.expect_next.new.self.lines c.join.new.self.lines c.in_ok-newcomer.newcomer c.in_ok-acted.ensures.ok c.step.ensures.topology
    c.self.invariant.kept_so (orders_of c.self.inside.rounds.lines c.expect_next.new.self.lines c.expect_next.ensures.same) c.in_ok-newcomer.ensures.expected c.join.ensures.adds c.join.ensures.joined)
    c.leave.ensures.left c.wake_for.ensures.on.same
    (λ place p i. asleep_of c.self.inside.rounds.lines c.expect_next.new.self.lines c.expect_next.ensures.same place p (c.join.ensures.asleep place p (c.leave.ensures.asleep place p (c.wake_for.ensures.asleep place p i))))
    (c.wake_for.ensures.on.len ∙ c.leave.ensures.len ∙ c.join.ensures.len ∙ c.expect_next.ensures.len)
    (λ p ch one wants there among same.
    subst (λ (k : Kept). IsNotAsleepAt c.wake_for.new.self.lines one.queue p ⊎ CannotTake (broker_of k) p) c.join.ensures.core
    (c.wake_for.ensures.awake p ch one wants (subst (λ (k : Kept). channel_of k.connections p.connection p.channel ≡ Some ch) (sym c.join.ensures.core) there) among same))).own
    (round_after c.self.inside.core c.step.new.self c.step.ensures.topology c.connection_of.result c.channel_of.result c.in_ok-acted.acted.ends
    (subst (λ (n : ℕ). ReportsEnds n c.channel_of.result c.in_ok-acted.acted.ends c.self.inside.core c.step.new.self) (sym c.connection_of.ensures)
    (subst (λ (n : ℕ). ReportsEnds (connection_of_event c.args.event.now) n c.in_ok-acted.acted.ends c.self.inside.core c.step.new.self) (sym c.channel_of.ensures) c.in_ok-acted.ensures.ended))
    c.self.inside.rounds.lines c.join.new.self.lines c.self.invariant.kept_so
    (adds_since c.step.new.self c.self.inside.rounds.lines c.expect_next.new.self.lines c.join.new.self.lines (orders_of c.self.inside.rounds.lines c.expect_next.new.self.lines c.expect_next.ensures.same) c.join.ensures.adds)
    c.args.event.now c.in_ok-acted.acted.step.sends.items c.in_ok-acted.acted.step.notes.items c.in_ok-acted.ensures.ok c.ghost_is_kept-2.ensures.whole c.ghost_is_kept-2.ensures.placed c.leave.new.self.lines c.wake_for.new.self.lines
    (somebody_new c.consumers_are_made.ensures c.self.inside.core c.step.new.self c.args.event.now c.in_ok-acted.acted.step.sends.items c.in_ok-acted.acted.step.notes.items c.self.inside.rounds.lines c.expect_next.new.self.lines c.join.new.self.lines c.in_ok-newcomer.newcomer c.in_ok-acted.ensures.ok c.step.ensures.topology
    c.self.invariant.kept_so (orders_of c.self.inside.rounds.lines c.expect_next.new.self.lines c.expect_next.ensures.same) c.in_ok-newcomer.ensures.expected c.join.ensures.adds c.join.ensures.joined)
    c.leave.ensures.left c.wake_for.ensures.on.same
    (λ place p i. asleep_of c.self.inside.rounds.lines c.expect_next.new.self.lines c.expect_next.ensures.same place p (c.join.ensures.asleep place p (c.leave.ensures.asleep place p (c.wake_for.ensures.asleep place p i))))
    (c.wake_for.ensures.on.len ∙ c.leave.ensures.len ∙ c.join.ensures.len ∙ c.expect_next.ensures.len)
    (λ p ch one wants there among same.
    subst (λ (k : Kept). IsNotAsleepAt c.wake_for.new.self.lines one.queue p ⊎ CannotTake (broker_of k) p) c.join.ensures.core
    (c.wake_for.ensures.awake p ch one wants (subst (λ (k : Kept). channel_of k.connections p.connection p.channel ≡ Some ch) (sym c.join.ensures.core) there) among same)))
    (c.wake_for.ensures.on.next ∙ c.leave.ensures.next ∙ c.join.ensures.next ∙ c.expect_next.ensures.next)))

-- each is in its line, whatever becomes of the event
pub returns-in_err-newcomer-clause-own : goal.returns-in_err-newcomer-clause-own
returns-in_err-newcomer-clause-own c = waiters_own c.self.inside.core c.expect_next.new.self c.self.inside.turn (invariant_of-self c).kept_so

pub returns-in_err-acted-clause-own : goal.returns-in_err-acted-clause-own
returns-in_err-acted-clause-own c = waiters_own c.step.new.self c.expect_next.new.self c.self.inside.turn (invariant_of-self-in_err-acted c).kept_so

pub returns-clause-own : goal.returns-clause-own
returns-clause-own c = waiters_own c.wake_for.new.core c.wake_for.new.self c.self.inside.turn (invariant_of-self-2 c).kept_so

-- lines are as long as queues have consumers
pub step-requires-clause-counted : goal.step-requires-clause-counted
step-requires-clause-counted c = λ queue count lt is.
    line_counted c.self.inside.core c.expect_next.new.self.lines c.ghost_is_kept.ensures.whole c.ghost_is_kept.ensures.placed c.ghost_is_kept.ensures.listed (kept_same c.self.inside.core c.self.inside.rounds.lines c.expect_next.new.self.lines c.expect_next.ensures.same c.expect_next.ensures.len c.self.invariant.kept_so) queue lt count is
