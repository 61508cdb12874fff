use Rattle.channels.proofs.Imports.{◌∙◌, sym, ap, subst, arith, drop, length, length-drop, List, inl, inr, AreKept, Delivery}
use Rattle.channels.proofs.Marking.{fewer_wait, kept_closed, on_ok}
use Rattle.channels.proofs.pending.Unsettled.reserve.Goals as goal

pub overflow_sub-is_enough : goal.overflow_sub-is_enough
overflow_sub-is_enough c =
    let counted = c.self.invariant.counted in
    let fewer = fewer_wait (drop c.self.inside.start c.self.inside.items.items) in
    let behind = length-drop c.self.inside.start c.self.inside.items.items in
    omega arith

pub is_worth_closing-is_worth-requires : goal.is_worth_closing-is_worth-requires
is_worth_closing-is_worth-requires c =
    let counted = c.self.invariant.counted in
    let fewer = fewer_wait (drop c.self.inside.start c.self.inside.items.items) in
    let behind = length-drop c.self.inside.start c.self.inside.items.items in
    omega arith

pub invariant_of-self : goal.invariant_of-self
invariant_of-self c =
    let few = c.self.invariant.few in
    let fewer = c.close_if-self-inside.ensures.fewer in
    subst (λ (ys : List Delivery). AreKept ys c.close_if-self-inside.result c.self.inside.count c.self.inside.last) (sym c.grow.ensures.items)
    (kept_closed c.self.inside.items.items c.close_if-self-inside.new.items.items c.self.inside.start c.close_if-self-inside.result c.self.inside.count c.self.inside.last c.self.invariant.order c.self.invariant.counted
    (let s = c.close_if-self-inside.ensures.start in omega arith) (c.close_if-self-inside.ensures.order c.self.inside.last) c.close_if-self-inside.ensures.waiting (omega arith))

pub invariant_of-self-else-is_err : goal.invariant_of-self-else-is_err
invariant_of-self-else-is_err c =
    let few = c.self.invariant.few in
    let fewer = c.close_if-self-inside.ensures.fewer in
    subst (λ (ys : List Delivery). AreKept ys c.close_if-self-inside.result c.self.inside.count c.self.inside.last) (sym c.grow.ensures.items)
    (kept_closed c.self.inside.items.items c.close_if-self-inside.new.items.items c.self.inside.start c.close_if-self-inside.result c.self.inside.count c.self.inside.last c.self.invariant.order c.self.invariant.counted
    (let s = c.close_if-self-inside.ensures.start in omega arith) (c.close_if-self-inside.ensures.order c.self.inside.last) c.close_if-self-inside.ensures.waiting (omega arith))

pub returns-clause-room : goal.returns-clause-room
returns-clause-room c =
    let grown = c.grow.ensures.capacity in
    let closed = c.close_if-self-inside.ensures.capacity in
    let was = c.capacity.ensures in
    let counted = c.self.invariant.counted in
    let same = ap (λ (ys : List Delivery). length ys) c.close_if-self-inside.ensures.waiting in
    let fewer = fewer_wait (drop c.close_if-self-inside.result c.close_if-self-inside.new.items.items) in
    let behind = length-drop c.close_if-self-inside.result c.close_if-self-inside.new.items.items in
    elim c.else-is_err.either [
      | inl p ↦ let enough = p.1 in omega arith
      | inr p ↦ let room = on_ok c.grow.result _ (sym c.is_err.ensures.value ∙ p) c.grow.ensures.ok in omega arith
    ]
