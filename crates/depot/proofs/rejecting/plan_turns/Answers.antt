use Rattle.depot.proofs.Names.{◌≡◌, ◌∙◌, ◌+◌, ◌∷◌, map, drop, get_or, refl, ap, arith, drop_all, drop_more, entries_of, turn_at, so_far}
use Rattle.depot.proofs.Foreseen.{extends_none, extends_then, foreseeing_begins, foreseeing_ends, foreseeing_next}
use Rattle.depot.proofs.rejecting.plan_turns.Goals as goal

pub loop-target-init : goal.loop-target-init
loop-target-init c =
    let turns = map (turn_at c.args.declared.now c.args.letter.now) c.args.targets.now in
    record {
      foreseen = λ entries are. foreseeing_begins c.args.declared.now (entries_of c.args.queues.now) turns entries (so_far c.args.plan.now c.args.notes.now) are;
      within = λ all. all;
      notes = extends_none c.args.notes.now.items c.args.notes.now.items refl;
      notes_len = omega arith;
      notes_capacity = refl;
    }

pub plan_turn-requires-clause-within : goal.plan_turn-requires-clause-within
plan_turn-requires-clause-within c =
    let lt = c.requires.within c.loop-target.target-index 0 c.loop-target-test.true in
    omega (arith, lt)

pub loop-target-preserved : goal.loop-target-preserved
loop-target-preserved c =
    let inv = c.loop-target.invariant in
    let qs = c.args.declared.now in
    let turn = turn_at qs c.args.letter.now in
    let i = c.loop-target.target-index in
    let p = get_or c.args.targets.now i 0 in
    let lt = c.loop-target-test.true in
    let within = c.requires.within i 0 lt in
    let next : drop i c.args.targets.now ≡ p ∷ drop (i + 1) c.args.targets.now = drop_more c.args.targets.now i 0 lt in
    record {
      foreseen = λ entries are.
          foreseeing_next qs (entries_of c.args.queues.now) (map turn c.args.targets.now) (map turn (drop i c.args.targets.now)) (map turn (drop (i + 1) c.args.targets.now)) (turn p) entries
          (so_far c.args.plan.now c.args.notes.now) (so_far c.loop-target.plan c.loop-target.notes) (so_far c.plan_turn.new.plan c.plan_turn.new.notes)
          (inv.foreseen entries are) (ap (map turn) next) c.in_ok-plan_turn.ensures.ok;
      within = λ all. c.plan_turn.ensures.within _ within (inv.within all);
      notes = extends_then c.args.notes.now.items c.loop-target.notes.items c.plan_turn.new.notes.items inv.notes c.plan_turn.ensures.notes;
      notes_len = let had = inv.notes_len in let more = c.plan_turn.ensures.notes_len in omega (arith, had, more);
      notes_capacity = c.plan_turn.ensures.notes_capacity ∙ inv.notes_capacity;
    }

pub returns-in_err-plan_turn-clause-notes : goal.returns-in_err-plan_turn-clause-notes
returns-in_err-plan_turn-clause-notes c = extends_then c.args.notes.now.items c.loop-target.notes.items c.plan_turn.new.notes.items c.loop-target.invariant.notes c.plan_turn.ensures.notes

pub returns-in_err-plan_turn-clause-within : goal.returns-in_err-plan_turn-clause-within
returns-in_err-plan_turn-clause-within c = λ all.
    c.plan_turn.ensures.within _ (c.requires.within c.loop-target.target-index 0 c.loop-target-test.true) (c.loop-target.invariant.within all)

pub returns-clause-ok : goal.returns-clause-ok
returns-clause-ok c = λ entries are.
    let qs = c.args.declared.now in
    let turn = turn_at qs c.args.letter.now in
    let none = drop_all c.loop-target.target-index c.args.targets.now (omega (arith, c.loop-target-test.false, c.loop-target.auto.target-index-end)) in
    foreseeing_ends qs (entries_of c.args.queues.now) (map turn c.args.targets.now) (map turn (drop c.loop-target.target-index c.args.targets.now)) entries
    (so_far c.args.plan.now c.args.notes.now) (so_far c.loop-target.plan c.loop-target.notes) (c.loop-target.invariant.foreseen entries are) (ap (map turn) none)
