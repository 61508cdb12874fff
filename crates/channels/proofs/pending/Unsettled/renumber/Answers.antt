use Rattle.channels.proofs.Imports.{◌∙◌, map, drop, length, sym, ap, subst, arith, List, length-map, OutstandingList, AreInOrder, waiting, outstanding_moved, Delivery}
use Rattle.channels.proofs.Moving.{drop_moved, moved_order, moved_waiting}
use Rattle.channels.proofs.pending.Unsettled.renumber.Goals as goal

pub invariant_of-self : goal.invariant_of-self
invariant_of-self c =
    let live : List Delivery = drop c.self.inside.start c.self.inside.items.items in
    let e = ap (λ (ys : List Delivery). drop c.self.inside.start ys) c.renumber_each.ensures.items ∙ drop_moved c.args.indices.now c.self.inside.start c.self.inside.items.items in
    let l = c.renumber_each.ensures.len in
    let within = c.self.invariant.within in
    let few = c.self.invariant.few in record {
      within = omega arith;
      order = subst (AreInOrder c.self.inside.last) (sym e) (moved_order c.self.inside.last c.args.indices.now live c.self.invariant.order);
      counted = c.self.invariant.counted ∙ sym (ap (λ (ys : List Delivery). length ys) (ap waiting e ∙ moved_waiting c.args.indices.now live) ∙ length-map (waiting live) (outstanding_moved c.args.indices.now));
      few = omega arith;
    }

pub returns-clause-outstanding : goal.returns-clause-outstanding
returns-clause-outstanding c =
    let live : List Delivery = drop c.self.inside.start c.self.inside.items.items in
    let e = ap (λ (ys : List Delivery). drop c.self.inside.start ys) c.renumber_each.ensures.items ∙ drop_moved c.args.indices.now c.self.inside.start c.self.inside.items.items in
    ap waiting e ∙ moved_waiting c.args.indices.now live ∙ ap (λ (l : OutstandingList). map (outstanding_moved c.args.indices.now) l.outstanding) c.self.view_is
