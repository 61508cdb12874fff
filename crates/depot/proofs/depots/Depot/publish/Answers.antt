use Rattle.depot.proofs.Names.{◌≡◌, ◌+◌, ◌<◌, ◌++◌, ◌∷◌, [], ◌∙◌, ap, sym, refl, arith, rules, List, length, get_or, Text, Topology, Note, PlannedTurn, Store, entries_of, store_of, TurnOutcome, is_refusal, turn_at}
use Rattle.model.specs.declared.notes.Way.TheVariants as way
use Rattle.depot.proofs.Alone.{one_enters, one_target, targets_here}
use Rattle.depot.proofs.Changes.{entries_of-length}
use Rattle.depot.proofs.Lending.{lent_entries, outcome_there, entered_there, on_err}
use Rattle.depot.proofs.Naming.{published_as}
use Rattle.depot.proofs.Planned.{name_there}
use Rattle.depot.proofs.Purged.{same_store}
use Rattle.depot.proofs.depots.Depot.publish.Goals as goal

pub publish_to_many-requires-clause-rising : goal.publish_to_many-requires-clause-rising
publish_to_many-requires-clause-rising c =
    let p = c.args.publish.now in
    let routed = targets_here c.self.inside.router c.self.inside.router p.exchange p.routing_key c.deref-targets.result.now c.in_ok-route.route.value refl (cc (c.deref-targets.ensures, c.deref.ensures)) c.in_ok-route.ensures.route in
    routed.rising

pub returns-then-targets-ne1-clause-ok : goal.returns-then-targets-ne1-clause-ok
returns-then-targets-ne1-clause-ok c =
    let was : Store = store_of c.self.inside.router (entries_of c.self.inside.queues) c.self.inside.published in
    let now : Store = store_of c.route_of.new.router (entries_of c.publish_to_many.new.queues) (c.self.inside.published + 1) in
    let p = c.args.publish.now in
    let t = c.topology-topology.result.now in
    let same : t ≡ was.topology = c.topology-topology.ensures ∙ c.route_of.ensures.same in
    let routed = targets_here was.topology t p.exchange p.routing_key c.deref-targets.result.now c.in_ok-route.route.value same (cc (c.deref-targets.ensures, c.deref.ensures)) c.in_ok-route.ensures.route in
    published_as was now c.args.self.now c.args.id.connection c.args.id.number p c.args.content.now c.args.confirm c.args.notes.now.items c.publish_to_many.new.notes.items c.in_ok-routed.routed t c.in_ok-message.message c.in_ok-first.first
    c.self.view_is same c.in_ok-message.ensures c.in_ok-first.ensures c.ghost_is_well_formed.ensures (entries_of-length c.self.inside.queues ∙ c.self.invariant) refl c.route_of.ensures.same (c.in_ok-routed.ensures.ok p routed)

pub returns-in_err-reserve-clause-unchanged : goal.returns-in_err-reserve-clause-unchanged
returns-in_err-reserve-clause-unchanged c =
    let place = get_or c.deref-targets.result.now 0 0 in
    on_err c.from_residual-in_err-reserve.result _
    (rw c.route_of.ensures.same
    (same_store c.self.inside.router c.self.inside.queues c.self.inside.published place c.args.self.now c.queue_mut-queue.result.now c.reserve.new.self c.self.view_is c.queue_mut-queue.ensures.value c.reserve.ensures.entries))

pub returns-in_err-reserve_exact-clause-unchanged : goal.returns-in_err-reserve_exact-clause-unchanged
returns-in_err-reserve_exact-clause-unchanged c =
    let place = get_or c.deref-targets.result.now 0 0 in
    on_err c.from_residual-in_err-reserve_exact.result _
    (rw c.route_of.ensures.same
    (same_store c.self.inside.router c.self.inside.queues c.self.inside.published place c.args.self.now c.queue_mut-queue.result.now c.reserve.new.self c.self.view_is c.queue_mut-queue.ensures.value c.reserve.ensures.entries))

pub returns-clause-ok : goal.returns-clause-ok
returns-clause-ok c =
    let was : Store = store_of c.self.inside.router (entries_of c.self.inside.queues) c.self.inside.published in
    let now : Store = store_of c.route_of.new.router (entries_of c.count_coming.new.self) (c.self.inside.published + 1) in
    let p = c.args.publish.now in
    let t = c.topology-topology.result.now in
    let same : t ≡ was.topology = c.topology-topology.ensures ∙ c.route_of.ensures.same in
    let lines = c.self.inside.queues in
    let place = get_or c.deref-targets.result.now 0 0 in
    let one : length c.deref-targets.result.now ≡ 1 = search rules in
    let routed = targets_here was.topology t p.exchange p.routing_key (place ∷ []) c.in_ok-route.route.value same (sym (one_target c.deref-targets.result.now one) ∙ cc (c.deref-targets.ensures, c.deref.ensures)) c.in_ok-route.ensures.route in
    let m = c.in_ok-message.message in
    let first = c.in_ok-first.first in
    let q = c.queue-declared.result.now in
    let lt : place < length t.queues = routed.within 0 0 (omega arith) in
    let len : length lines ≡ length t.queues = c.self.invariant ∙ ap (λ (u : Topology). length u.queues) (sym same) in
    let turn : PlannedTurn = record { place = place; name = c.in_ok-clone.field-0; message = m } in
    let turned : turn ≡ turn_at t.queues m place =
    ap (λ (n : Text). record { place = place; name = n; message = m }) (c.in_ok-clone.ensures ∙ name_there t.queues place q lt c.queue-declared.ensures) in
    let is : c.reserve.new.self.entries ≡ get_or (entries_of lines) place [] = c.reserve.ensures.entries ∙ lent_entries lines place c.queue_mut-queue.result.now (omega (arith, lt, len)) c.queue_mut-queue.ensures.value in
    let there = outcome_there way.Publish t.queues (entries_of lines) turn q _ lt c.queue-declared.ensures is in
    published_as was now c.args.self.now c.args.id.connection c.args.id.number p c.args.content.now c.args.confirm c.args.notes.now.items c.enter-is_some_full.new.notes.items _ t m first
    c.self.view_is same c.in_ok-message.ensures c.in_ok-first.ensures c.ghost_is_well_formed.ensures (entries_of-length lines ∙ c.self.invariant) refl c.route_of.ensures.same
    (one_enters t p m place first c.args.notes.now.items c.push_reserved.new.self.items _ t.queues (entries_of lines) (entries_of lines) _ turn _ routed refl turned refl
    (ap entries_of c.count_coming.ensures ∙ entered_there way.Publish t.queues lines turn q _ c.enter-is_some_full.new.queue lt c.queue-declared.ensures is c.enter-is_some_full.ensures.entries)
    (c.push_reserved.ensures.items ∙ ap (λ (ns : List Note). ns ++ first ∷ []) c.reserve_exact.ensures.items)
    (c.enter-is_some_full.ensures.notes ∙ ap (λ (o : TurnOutcome). c.push_reserved.new.self.items ++ o.note ∷ []) there)
    (c.enter-is_some_full.ensures.refused ∙ ap is_refusal there))
