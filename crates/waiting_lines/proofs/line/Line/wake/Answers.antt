use Rattle.std.proofs.Common.{◌<◌, List, length, ap, sym, subst, inr, refl}
use Rattle.marks.specs.Sets.{bit_of}
use Rattle.waiting_lines.specs.Order.{Queue}
use Rattle.waiting_lines.proofs.Standing.{wakes_one, nobody}
use Rattle.waiting_lines.proofs.line.Line.wake.Goals as goal

pub returns-in-Some-clause-order : goal.returns-in-Some-clause-order
returns-in-Some-clause-order g c =
    let items = c.self.inside.items.items in
    let was = sym (ap (λ (q : Queue g.row.T.Denot). q.order) c.self.view_is) in
    let slice = c.deref.ensures.value in
    let place = c.in-Some.place in
    wakes_one c.self.inside.next (bit_of c.self.inside.awake) items c.args.self.now.order was c.self.invariant.begins (g.K.Tests.passes c.args.test.now) place
    (bit_of c.set.new.self) (subst (λ (xs : List g.row.T.Denot). place < length xs) slice c.in-Some.ensures.within)
    (rw slice at c.in-Some.ensures.there) c.set.ensures.set

pub returns-in-None-clause-order : goal.returns-in-None-clause-order
returns-in-None-clause-order g c =
    let items = c.self.inside.items.items in
    let was = sym (ap (λ (q : Queue g.row.T.Denot). q.order) c.self.view_is) in
    inr (
      nobody c.self.inside.next (bit_of c.self.inside.awake) items c.args.self.now.order was c.self.invariant.begins (g.K.Tests.passes c.args.test.now)
          (rw c.deref.ensures.value at c.in-None.ensures.none),
      refl,
    )
