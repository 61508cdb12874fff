use Rattle.std.proofs.Common.{subst, sym}
use Rattle.turns.specs.Turns.{IsDue, Seats}
use Rattle.turns.proofs.Seating.{none_due}
use Rattle.turns.proofs.turns.Turns.is_due.Goals as goal

pub returns-else-contains : goal.returns-else-contains
returns-else-contains c = λ none due.
    let own = c.self.inside in
    none_due own.speaking own.picked own.voices.items c.args.index c.self.invariant.asked (c.contains.ensures.missing c.if-contains.false) (c.contains-else-contains.ensures.missing none)
    (subst (λ (s : Seats). IsDue s c.args.index) (sym c.self.view_is) due)
