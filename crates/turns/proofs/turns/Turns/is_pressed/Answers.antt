use Rattle.std.proofs.Common.{subst, sym}
use Rattle.turns.specs.Turns.{HasMore, Seats, voice_at}
use Rattle.turns.proofs.Seating.{none_has_more, not_false}
use Rattle.turns.proofs.turns.Turns.is_pressed.Goals as goal

pub returns : goal.returns
returns c = λ none i more.
    let own = c.self.inside in
    none_has_more own.greedy.members own.strangers.members own.contents.members own.voices.items i c.self.invariant.greedy c.self.invariant.strangers c.self.invariant.contents
    (c.is_empty.ensures c.if-not-is_empty.false) (c.is_empty-2.ensures c.if-not-is_empty-2.false) (c.is_empty-3.ensures (not_false c.is_empty-3.result none))
    (subst (λ (s : Seats). HasMore (voice_at s.voices i)) (sym c.self.view_is) more)
