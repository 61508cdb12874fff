use Rattle.depot.proofs.Names.{◌∙◌, ap, sym, arith, PlannedTurn, places}
use Rattle.std.proofs.lemmas.List.{get_or-map}
use Rattle.depot.proofs.Changes.{below_at}
use Rattle.depot.proofs.Turning.{room_more}
use Rattle.depot.proofs.entering.make_room.Goals as goal

pub make_room_at-requires : goal.make_room_at-requires
make_room_at-requires c =
    below_at (λ (t : PlannedTurn). t.place) _ _ c.args.turns.now c.loop-turn.turn-index c.turn-item.result c.requires c.loop-turn.invariant.len c.loop-turn-test.true c.turn-item.is

pub loop-turn-preserved : goal.loop-turn-preserved
loop-turn-preserved c =
    let place = λ (t : PlannedTurn). t.place in
    let here = get_or-map place c.args.turns.now c.loop-turn.turn-index c.turn-item.result 0 c.loop-turn-test.true ∙ ap place (sym c.turn-item.is) in
    record {
      len = c.make_room_at.ensures.len ∙ c.loop-turn.invariant.len;
      same = c.make_room_at.ensures.same ∙ c.loop-turn.invariant.same;
      kept = λ k. let had = c.loop-turn.invariant.kept k in let more = c.make_room_at.ensures.kept k in omega (arith, had, more);
      room = room_more c.loop-turn.queues c.make_room_at.new.queues (places c.args.turns.now) c.args.more c.loop-turn.turn-index _ c.turn-item.result.place (omega arith) here c.in_ok-make_room_at.ensures.room c.make_room_at.ensures.kept c.loop-turn.invariant.room;
    }
