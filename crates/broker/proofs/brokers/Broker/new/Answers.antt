use Rattle.broker.proofs.Names.{◌∙◌, ◌≤◌, ℕ, List, Some, length, sym, ap, subst, arith, is_some, false≢true, Topology, IsIn, IsAgreed, Broker, Channel, is_held_as, Is, Entry, Kept, Rounds}
use Rattle.std.proofs.Common.{◌≡◌}
use Rattle.std.specs.Prelude.{count_by}
use Rattle.commands.specs.State.{broker_of, topology_kept, nothing}
use Rattle.broker.proofs.Reloading.{kept_empty}
use Rattle.broker.proofs.brokers.Broker.new.Goals as goal

no_channel : (b : Broker) → Is nothing b → (c h : ℕ) (ch : Channel) → b.channel c h ≡ Some ch → ⊥
no_channel b is c h ch e = false≢true (ap is_some (sym (is.channels c h) ∙ e))

-- where nothing was asked of a broker yet nothing is held, and nothing outstanding
nothing_agreed : (b : Broker) → Is nothing b → IsAgreed b
nothing_agreed b is = record {
  held = λ q e holder i m. absurd (subst (λ (es : List Entry). IsIn e es) (is.queues q) i);
  given = λ c h ch o e i. absurd (no_channel b is c h ch e);
  distinct = λ q holder. subst (λ (es : List Entry). count_by (is_held_as holder) es ≤ 1) (sym (is.queues q)) (omega arith);
  rising = λ c h ch e. absurd (no_channel b is c h ch e);
  before = λ c h ch e. absurd (no_channel b is c h ch e);
  closed = λ c h ch e. absurd (no_channel b is c h ch e);
}

pub invariant_of-result : goal.invariant_of-result
invariant_of-result c =
    let core : Kept = c.in_ok-core.core in
    let rounds : Rounds = c.in_ok-rounds.rounds in
    let long : length rounds.lines ≡ length (topology_kept core).queues = c.in_ok-rounds.ensures.lines ∙ ap length c.queues.ensures ∙ ap (λ (t : Topology). length t.queues) (sym c.in_ok-core.ensures.topology) in
    record {
      agreed = nothing_agreed (broker_of core) c.in_ok-core.ensures.empty;
      kept_so = kept_empty core rounds.lines c.in_ok-rounds.ensures.empty long (λ d h. c.in_ok-core.ensures.empty.channels d h);
    }
