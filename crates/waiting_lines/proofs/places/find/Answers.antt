use Rattle.std.proofs.Common.{◌≡◌, ◌+◌, ◌-◌, inl, inr, subst, arith}
use Rattle.std.proofs.lemmas.Bool.Decides.{leb_tells}
use Rattle.waiting_lines.specs.Order.{FailsAt}
use Rattle.waiting_lines.proofs.places.find.Goals as goal

pub returns-clause-none : goal.returns-clause-none
returns-clause-none g c = λ i d lt.
    let middle = c.min-middle.result in
    let most = c.min-middle.ensures in
    let done = c.loop-away-test.false in
    elim (leb_tells middle i) [
      | inl a ↦
          let le = a.1 in
          let at : middle + (i - middle) ≡ i = omega (arith, le) in
          subst (FailsAt (g.K.Tests.passes c.args.test.now) c.args.items.now) at (c.loop-away.invariant.above (i - middle) (omega (arith, lt, le, done))) d lt
      | inr a ↦
          let gt = a.1 in
          let at : middle - 1 - (middle - 1 - i) ≡ i = omega (arith, gt) in
          subst (FailsAt (g.K.Tests.passes c.args.test.now) c.args.items.now) at (c.loop-away.invariant.below (middle - 1 - i) (omega (arith, gt, most, done)) (omega (arith, gt))) d lt
    ]
