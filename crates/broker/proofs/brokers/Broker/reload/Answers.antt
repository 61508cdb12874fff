use Rattle.broker.proofs.Names.{◌∙◌, ℕ, List, None, length, sym, ap, subst, Topology, queue_names, NoneIsOrphaned, AreMoved, names-length, Kept, names_of, Rounds, IndicesDiffer, LinesAreMoved, LinesCome, WithTurn, with_turn, LinesMove}
use Rattle.std.proofs.Common.{◌≡◌}
use Rattle.commands.specs.State.{broker_of, topology_kept}
use Rattle.broker.specs.Turns as seen
use Rattle.broker.proofs.Reloading.{places_apart, agreed_survived, kept_moved, lines_moved}
use Rattle.broker.proofs.brokers.Broker.reload.Goals as goal

pub reload-requires-clause-kept : goal.reload-requires-clause-kept
reload-requires-clause-kept c = subst (λ (b : WithTurn). NoneIsOrphaned (seen.topology_kept b) c.args.topology (seen.broker_of b)) (sym c.self.view_is) c.requires

pub take_over-requires-clause-distinct : goal.take_over-requires-clause-distinct
take_over-requires-clause-distinct c =
    let old : Kept = c.self.inside.core in
    let t = c.args.topology in
    let count = length c.replace-old.new.dest.lines in
    let all : count ≡ length (queue_names t.queues) = ap (λ (r : Rounds). length r.lines) c.replace-old.ensures.after ∙ c.in_ok-empty.ensures.lines ∙ ap length c.queues.ensures ∙ sym (names-length t.queues) in
    subst (λ (ps : List ℕ). IndicesDiffer ps count) (sym c.deref.ensures.value)
    (places_apart (names_of old) (queue_names t.queues) c.in_ok-places.places.items count c.ghost_is_kept.ensures.whole.formed.queues_distinct c.in_ok-places.ensures.moved all)

pub invariant_of-self-2 : goal.invariant_of-self-2
invariant_of-self-2 c =
    let old : Kept = c.self.inside.core in
    let new : Kept = c.reload.new.self in
    let before : Rounds = c.self.inside.rounds in
    let left : Rounds = c.take_over.new.self in
    let places = c.in_ok-places.places.items in
    let is : topology_kept new ≡ c.args.topology = c.in_ok-places.ensures.topology in
    let count : length c.replace-old.new.dest.lines ≡ length c.args.topology.queues = ap (λ (r : Rounds). length r.lines) c.replace-old.ensures.after ∙ c.in_ok-empty.ensures.lines ∙ ap length c.queues.ensures in
    record {
      agreed = agreed_survived (broker_of old) (broker_of new) c.in_ok-places.ensures.survived c.self.invariant.agreed;
      kept_so = kept_moved old new places c.ghost_is_kept-2.ensures.whole c.ghost_is_kept.ensures.placed (subst (λ (x : Topology). AreMoved (names_of old) (queue_names x.queues) places) (sym is) c.in_ok-places.ensures.moved) c.in_ok-places.ensures.survived
          before.lines c.in_ok-empty.empty.lines left.lines c.self.invariant.kept_so
          (subst (λ (r : Rounds). LinesAreMoved places r.lines left.lines) c.replace-old.ensures.value (subst (λ (ps : List ℕ). LinesAreMoved ps c.replace-old.result.lines left.lines) c.deref.ensures.value c.take_over.ensures.moved))
          (subst (λ (r : Rounds). LinesCome places r.lines c.in_ok-empty.empty.lines left.lines) c.replace-old.ensures.value
          (subst (λ (r : Rounds). LinesCome places c.replace-old.result.lines r.lines left.lines) c.replace-old.ensures.after
          (subst (λ (ps : List ℕ). LinesCome ps c.replace-old.result.lines c.replace-old.new.dest.lines left.lines) c.deref.ensures.value c.take_over.ensures.came)))
          c.in_ok-empty.ensures.empty (c.take_over.ensures.len ∙ count ∙ ap (λ (x : Topology). length x.queues) (sym is));
    }

pub returns-clause-lines : goal.returns-clause-lines
returns-clause-lines c =
    let old : Kept = c.self.inside.core in
    let new : Kept = c.reload.new.self in
    let before : Rounds = c.self.inside.rounds in
    let left : Rounds = c.take_over.new.self in
    let places = c.in_ok-places.places.items in
    let is : topology_kept new ≡ c.args.topology = c.in_ok-places.ensures.topology in
    let count : length c.replace-old.new.dest.lines ≡ length c.args.topology.queues = ap (λ (r : Rounds). length r.lines) c.replace-old.ensures.after ∙ c.in_ok-empty.ensures.lines ∙ ap length c.queues.ensures in
    subst (λ (b : WithTurn). LinesMove b (with_turn new left None)) c.self.view_is
    (lines_moved old new places c.ghost_is_kept-2.ensures.whole c.ghost_is_kept.ensures.placed (subst (λ (x : Topology). AreMoved (names_of old) (queue_names x.queues) places) (sym is) c.in_ok-places.ensures.moved) c.in_ok-places.ensures.survived
    before left c.self.inside.turn
    (subst (λ (r : Rounds). LinesAreMoved places r.lines left.lines) c.replace-old.ensures.value (subst (λ (ps : List ℕ). LinesAreMoved ps c.replace-old.result.lines left.lines) c.deref.ensures.value c.take_over.ensures.moved))
    (c.take_over.ensures.len ∙ count ∙ ap (λ (x : Topology). length x.queues) (sym is))
    (c.take_over.ensures.next ∙ ap (λ (r : Rounds). r.next) c.replace-old.ensures.after ∙ c.in_ok-empty.ensures.next))
