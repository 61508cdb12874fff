use Rattle.std.proofs.Common.{arith, subst, sym}
use Rattle.turns.specs.Turns.{IsDue, Seats}
use Rattle.turns.proofs.Seating.{none_due}
use Rattle.turns.proofs.turns.Turns.next_due.Goals as goal

pub returns-clause-passed : goal.returns-clause-passed
returns-clause-passed c = λ i least less due.
    let own = c.self.inside in
    let first = c.first_before-speaking.ensures in
    let last = c.first_before.ensures in
    let most = last.most in
    none_due own.speaking own.picked own.voices.items i c.self.invariant.asked (first.passed i least (omega (arith, less, most))) (last.passed i least less)
    (subst (λ (s : Seats). IsDue s i) (sym c.self.view_is) due)
