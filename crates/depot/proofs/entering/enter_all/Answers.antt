use Rattle.depot.proofs.Names.{◌≡◌, ◌<◌, ◌≤◌, ◌+◌, ◌++◌, ◌∷◌, [], ℕ, List, length, ap, sym, subst, ◌∙◌, arith, append_assoc, All, Bool, ◌||◌, list_any, Note, Entry, PlannedTurn, entries_of, places, outcome, outcomes, notes_of_outcomes, is_refusal, all_entered, room_at, times}
use Rattle.model.specs.declared.notes.Way.TheVariants as way
use Rattle.depot.proofs.Turning.{within_rest, or_assoc, here_once}
use Rattle.depot.proofs.entering.enter_all.Goals as goal

pub enter_at-is_some_refused-requires-clause-within : goal.enter_at-is_some_refused-requires-clause-within
enter_at-is_some_refused-requires-clause-within c =
    let within : All (λ (i : ℕ). i < length c.loop-turn.queues) (places (c.in-Some.turn ∷ c.next.new.self.rest.items))
    = subst (λ (ts : List PlannedTurn). All (λ (i : ℕ). i < length c.loop-turn.queues) (places ts)) c.in-Some.ensures.steps.0 c.loop-turn.invariant.within in
    within 0 0 (omega arith)

pub enter_at-is_some_refused-requires-clause-room : goal.enter_at-is_some_refused-requires-clause-room
enter_at-is_some_refused-requires-clause-room c =
    let place = c.in-Some.turn.place in
    let rest = places c.next.new.self.rest.items in
    let had : times place (place ∷ rest) ≤ room_at c.loop-turn.queues place
    = subst (λ (ts : List PlannedTurn). times place (places ts) ≤ room_at c.loop-turn.queues place) c.in-Some.ensures.steps.0 (c.loop-turn.invariant.room place) in
    let once = here_once place rest in
    omega (arith, had, once)

pub enter_at-is_some_refused-requires-clause-notes : goal.enter_at-is_some_refused-requires-clause-notes
enter_at-is_some_refused-requires-clause-notes c =
    let long = ap length c.in-Some.ensures.steps.0 in
    let len = c.loop-turn.invariant.notes_len in
    let capacity = c.loop-turn.invariant.notes_capacity in
    let enough = c.requires.notes in
    omega arith

pub loop-turn-preserved : goal.loop-turn-preserved
loop-turn-preserved c =
    let inv = c.loop-turn.invariant in
    let t = c.in-Some.turn in
    let rest = c.next.new.self.rest.items in
    let next = c.in-Some.ensures.steps.0 in
    let declared = c.args.declared.now in
    let es = entries_of c.loop-turn.queues in
    let long = ap length next in
    let counted = inv.notes_len in
    let one = c.enter_at-is_some_refused.ensures.notes_len in
    let same = c.enter_at-is_some_refused.ensures.len in
    let before = inv.len in
    let within : All (λ (i : ℕ). i < length c.loop-turn.queues) (places (t ∷ rest)) = subst (λ (ts : List PlannedTurn). All (λ (i : ℕ). i < length c.loop-turn.queues) (places ts)) next inv.within in
    let moved : entries_of c.enter_at-is_some_refused.new.queues ≡ all_entered (outcome way.Publish declared es t ∷ []) es = c.enter_at-is_some_refused.ensures.entries in
    record {
      len = same ∙ before;
      within = subst (λ (n : ℕ). All (λ (i : ℕ). i < n) (places rest)) (sym same) (within_rest _ t.place (places rest) within);
      room = λ k.
          let had : times k (places (t ∷ rest)) ≤ room_at c.loop-turn.queues k = subst (λ (ts : List PlannedTurn). times k (places ts) ≤ room_at c.loop-turn.queues k) next (inv.room k) in
          let one = c.enter_at-is_some_refused.ensures.room k in
          omega (arith, had, one);
      refused =
          ap (λ (xs : List (List Entry)). (c.loop-turn.is_some_refused || c.enter_at-is_some_refused.result) || list_any is_refusal (outcomes way.Publish declared rest xs)) moved
          ∙ ap (λ (b : Bool). (c.loop-turn.is_some_refused || b) || list_any is_refusal (outcomes way.Publish declared rest (all_entered (outcome way.Publish declared es t ∷ []) es))) c.enter_at-is_some_refused.ensures.refused
          ∙ or_assoc c.loop-turn.is_some_refused (is_refusal (outcome way.Publish declared es t)) (list_any is_refusal (outcomes way.Publish declared rest (all_entered (outcome way.Publish declared es t ∷ []) es)))
          ∙ ap (λ (ts : List PlannedTurn). c.loop-turn.is_some_refused || list_any is_refusal (outcomes way.Publish declared ts es)) (sym next)
          ∙ inv.refused;
      entries =
          ap (λ (xs : List (List Entry)). all_entered (outcomes way.Publish declared rest xs) xs) moved
          ∙ ap (λ (ts : List PlannedTurn). all_entered (outcomes way.Publish declared ts es) es) (sym next)
          ∙ inv.entries;
      notes =
          ap (λ (xs : List (List Entry)). c.enter_at-is_some_refused.new.notes.items ++ notes_of_outcomes (outcomes way.Publish declared rest xs)) moved
          ∙ ap (λ (ns : List Note). ns ++ notes_of_outcomes (outcomes way.Publish declared rest (all_entered (outcome way.Publish declared es t ∷ []) es))) c.enter_at-is_some_refused.ensures.notes
          ∙ append_assoc c.loop-turn.notes.items ((outcome way.Publish declared es t).note ∷ []) (notes_of_outcomes (outcomes way.Publish declared rest (all_entered (outcome way.Publish declared es t ∷ []) es)))
          ∙ ap (λ (ts : List PlannedTurn). c.loop-turn.notes.items ++ notes_of_outcomes (outcomes way.Publish declared ts es)) (sym next)
          ∙ inv.notes;
      notes_len = omega arith;
      notes_capacity = c.enter_at-is_some_refused.ensures.notes_capacity ∙ inv.notes_capacity;
    }
