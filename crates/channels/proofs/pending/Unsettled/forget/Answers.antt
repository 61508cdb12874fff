use Rattle.channels.proofs.Imports.{◌≡◌, ◌+◌, ◌-◌, ap, sym, subst, OutstandingList, kept, tag_of, arith, drop, length, length-drop, List, ℕ, waiting, Delivery}
use Rattle.channels.proofs.Marking.{fewer_wait, kept_closed, few_closed}
use Rattle.channels.proofs.pending.Unsettled.forget.Goals as goal

pub is_sparse-is_wanted-requires : goal.is_sparse-is_wanted-requires
is_sparse-is_wanted-requires c =
    let counted = c.self.invariant.counted in
    let gone = subst (λ (l : OutstandingList). c.args.gone + length (kept tag_of c.args.span.tag c.args.span.multiple l.outstanding) ≡ length l.outstanding) (sym c.self.view_is) c.requires in
    let left = ap (λ (ys : List Delivery). length ys) c.forget_in-self-inside.ensures.kept in
    let fewer = fewer_wait (drop c.forget_in-self-inside.result c.forget_in-self-inside.new.items.items) in
    let behind = length-drop c.forget_in-self-inside.result c.forget_in-self-inside.new.items.items in
    let long = c.len.ensures in
    omega arith

pub invariant_of-self : goal.invariant_of-self
invariant_of-self c =
    let xs : List Delivery = c.forget_in-self-inside.new.items.items in
    let front : ℕ = c.forget_in-self-inside.result in
    let counted = c.self.invariant.counted in
    let gone = subst (λ (l : OutstandingList). c.args.gone + length (kept tag_of c.args.span.tag c.args.span.multiple l.outstanding) ≡ length l.outstanding) (sym c.self.view_is) c.requires in
    let left = ap (λ (ys : List Delivery). length ys) c.forget_in-self-inside.ensures.kept in
    let long = c.len.ensures in
    kept_closed xs c.close_if-self-inside.new.items.items front c.close_if-self-inside.result (c.self.inside.count - c.args.gone) c.self.inside.last (c.forget_in-self-inside.ensures.order c.self.inside.last c.self.invariant.order) (omega arith)
    (let s = c.close_if-self-inside.ensures.start in omega arith) (c.close_if-self-inside.ensures.order c.self.inside.last) c.close_if-self-inside.ensures.waiting (few_closed c.is_sparse-is_wanted.result (length xs) (length c.close_if-self-inside.new.items.items) (c.self.inside.count - c.args.gone) (length (waiting (drop front xs)))
    (λ e. let s = c.close_if-self-inside.ensures.closed e in omega arith) (λ e. let s = c.is_sparse-is_wanted.ensures e in omega arith) (let f = c.close_if-self-inside.ensures.fewer in omega arith) (omega arith))
