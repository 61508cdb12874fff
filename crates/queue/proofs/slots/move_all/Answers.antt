use Rattle.queue.proofs.Names.{◌≡◌, ◌∷◌, [], ◌++◌, ◌∙◌, List, length, refl, sym, ap, append_assoc, append-nil, arith, into_iter_items, Slot}
use Rattle.queue.proofs.slots.move_all.Goals as goal

nothing_left : {X : Type 0} (xs : List X) → length xs ≡ 0 → xs ≡ []
nothing_left [] h = refl
nothing_left (x ∷ xs) h = absurd (omega arith)

pub push_reserved-requires : goal.push_reserved-requires
push_reserved-requires c =
    let at = c.loop-slot in
    let steps : into_iter_items at.slot-iterator ≡ c.in-Some.slot ∷ into_iter_items c.next.new.self = c.in-Some.ensures.steps.0 in
    let n = ap length steps in
    let room = at.invariant.2 in
    omega (arith, n, room)

pub loop-slot-preserved : goal.loop-slot-preserved
loop-slot-preserved c =
    let at = c.loop-slot in
    let x = c.in-Some.slot in
    let steps : into_iter_items at.slot-iterator ≡ x ∷ into_iter_items c.next.new.self = c.in-Some.ensures.steps.0 in
    let n = ap length steps in
    let gone = c.in-Some.ensures.steps.1 in
    let was = at.invariant.1 in
    let room = at.invariant.2 in
    let len = c.push_reserved.ensures.len in
    let capacity = c.push_reserved.ensures.capacity in (
      ap (λ (ss : List Slot). ss ++ into_iter_items c.next.new.self) c.push_reserved.ensures.items ∙ append_assoc at.slots.items (x ∷ []) _ ∙ rw (← steps) at.invariant.0,
      omega (arith, n, gone, was),
      omega (arith, n, room, len, capacity),
      capacity ∙ at.invariant.3,
    )

pub returns-clause-items : goal.returns-clause-items
returns-clause-items c =
    let at = c.loop-slot in
    let none = c.in-None.ensures.steps in
    let empty : into_iter_items at.slot-iterator ≡ [] = nothing_left _ (sym at.invariant.1 ∙ none.0) in
    sym (append-nil at.slots.items) ∙ rw empty at at.invariant.0 ∙ ap (λ (ss : List Slot). c.args.slots.now.items ++ ss) c.into_iter-slot-iterator.ensures.into_iter_gives.0
