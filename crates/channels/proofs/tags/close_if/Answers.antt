use Rattle.channels.proofs.Imports.{◌∙◌, sym, ap, subst, arith, drop, length, length-drop, List, AreInOrder, waiting, Delivery}
use Rattle.channels.proofs.Marking.{closed_order, closed_again, fewer_wait}
use Rattle.channels.proofs.tags.close_if.Goals as goal

pub returns-clause-order : goal.returns-clause-order
returns-clause-order c = λ last order. subst (AreInOrder last) (sym c.close_up.ensures.items) (closed_order (drop c.args.start c.args.items.now.items) last order)

pub returns-clause-waiting : goal.returns-clause-waiting
returns-clause-waiting c = ap waiting c.close_up.ensures.items ∙ closed_again (drop c.args.start c.args.items.now.items)

pub returns-clause-fewer : goal.returns-clause-fewer
returns-clause-fewer c =
    let e = ap (λ (ys : List Delivery). length ys) c.close_up.ensures.items in
    let f = fewer_wait (drop c.args.start c.args.items.now.items) in
    let l = length-drop c.args.start c.args.items.now.items in
    omega arith
