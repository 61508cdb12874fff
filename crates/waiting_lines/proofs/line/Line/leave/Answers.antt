use Rattle.std.proofs.Common.{◌<◌, List, length, ap, sym, subst, inr, refl}
use Rattle.marks.specs.Sets.{bit_of}
use Rattle.waiting_lines.specs.Order.{Queue}
use Rattle.waiting_lines.proofs.Standing.{loses_one, nobody}
use Rattle.waiting_lines.proofs.line.Line.leave.Goals as goal

pub returns-in-Some-clause-order : goal.returns-in-Some-clause-order
returns-in-Some-clause-order g c =
    let items = c.self.inside.items.items in
    let was = sym (ap (λ (q : Queue g.row.T.Denot). q.order) c.self.view_is) in
    let slice = c.deref.ensures.value in
    let place = c.in-Some.place in
    loses_one c.self.inside.next (bit_of c.self.inside.awake) items c.args.self.now.order was c.self.invariant.begins (g.K.Tests.passes c.args.test.now) place
    c.next_without-self-inside.result (bit_of c.remove-in-Some.new.self) c.remove.new.self.items (subst (λ (xs : List g.row.T.Denot). place < length xs) slice c.in-Some.ensures.within)
    (rw slice at c.in-Some.ensures.there) c.remove.ensures.items c.remove-in-Some.ensures.removed c.next_without-self-inside.ensures

pub returns-in_default-clause-order : goal.returns-in_default-clause-order
returns-in_default-clause-order g c =
    let items = c.self.inside.items.items in
    let was = sym (ap (λ (q : Queue g.row.T.Denot). q.order) c.self.view_is) in
    inr (
      nobody c.self.inside.next (bit_of c.self.inside.awake) items c.args.self.now.order was c.self.invariant.begins (g.K.Tests.passes c.args.test.now)
          (rw c.deref.ensures.value at c.in_default.ensures.none),
      refl,
    )
