use Rattle.depot.proofs.Names.{◌≡◌, ◌∙◌, refl, ap, map, List, DeclaredQueue, turn_at}
use Rattle.depot.proofs.Naming.{turned_within, turned_rising}
use Rattle.depot.proofs.Turning.{roomy, times_rising}
use Rattle.depot.proofs.publishing.publish_to_many.Goals as goal

pub make_room-requires : goal.make_room-requires
make_room-requires c =
    let m = c.args.message in
    let turned : c.in_ok-turns.turns.items ≡ map (turn_at c.args.topology.now.queues m) c.args.targets.now
    = c.in_ok-turns.ensures ∙ ap (λ (qs : List DeclaredQueue). map (turn_at qs m) c.args.targets.now) c.queues.ensures in
    turned_within c.args.topology.now m c.args.targets.now c.in_ok-turns.turns.items _ _ turned c.requires.within c.deref.ensures.value c.requires.len

pub enter_all-is_some_full-requires-clause-within : goal.enter_all-is_some_full-requires-clause-within
enter_all-is_some_full-requires-clause-within c =
    let m = c.args.message in
    let turned : c.in_ok-turns.turns.items ≡ map (turn_at c.args.topology.now.queues m) c.args.targets.now
    = c.in_ok-turns.ensures ∙ ap (λ (qs : List DeclaredQueue). map (turn_at qs m) c.args.targets.now) c.queues.ensures in
    turned_within c.args.topology.now m c.args.targets.now c.in_ok-turns.turns.items _ _ turned c.requires.within refl (c.make_room.ensures.len ∙ c.requires.len)

pub enter_all-is_some_full-requires-clause-room : goal.enter_all-is_some_full-requires-clause-room
enter_all-is_some_full-requires-clause-room c =
    let m = c.args.message in
    let turned : c.in_ok-turns.turns.items ≡ map (turn_at c.args.topology.now.queues m) c.args.targets.now
    = c.in_ok-turns.ensures ∙ ap (λ (qs : List DeclaredQueue). map (turn_at qs m) c.args.targets.now) c.queues.ensures in
    let rising = turned_rising c.args.topology.now m c.args.targets.now c.in_ok-turns.turns.items c.deref.result.now turned c.requires.rising c.deref.ensures.value in
    λ place. rw (← c.deref.ensures.value) (roomy c.make_room.new.queues _ 1 c.in_ok-make_room.ensures.room (λ k. times_rising k _ rising) place)
