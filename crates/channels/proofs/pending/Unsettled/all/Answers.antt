use Rattle.channels.proofs.Imports.{◌+◌, ◌*◌, ◌≤◌, sym, ap, subst, arith, length, length-drop, List, Rises, OutstandingList, given_tag, Delivery}
use Rattle.channels.proofs.pending.Unsettled.all.Goals as goal

pub returns-clause-rises : goal.returns-clause-rises
returns-clause-rises c = subst (Rises given_tag) (sym c.behind.ensures) c.self.invariant.order.rises

pub returns-clause-few : goal.returns-clause-few
returns-clause-few c =
    let e = ap (λ (ys : List Delivery). length ys) c.behind.ensures in
    let l = length-drop c.self.inside.start c.self.inside.items.items in
    let counted = c.self.invariant.counted in
    let few = c.self.invariant.few in
    subst (λ (s : OutstandingList). length c.behind.result.now ≤ 2 * length s.outstanding + 32) c.self.view_is (omega arith)
