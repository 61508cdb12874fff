use Rattle.queue.proofs.Names.{◌≡◌, sym, ap, subst, true, false, find, is_some, is_ready, Stretch}
use Rattle.queue.proofs.Places.{some_at, none_found}
use Rattle.queue.proofs.Slotted.{first_by_marks, none_by_marks}
use Rattle.queue.proofs.block.Block.has_ready.Goals as goal

pub returns-in-Some : goal.returns-in-Some
returns-in-Some c = subst (λ (l : Stretch). true ≡ is_some (find is_ready l.entries)) c.self.view_is
    (sym (some_at is_ready _ _ (first_by_marks is_ready _ _ _ c.self.invariant.0.signed c.in-Some.ensures.some)))

pub returns-in-None : goal.returns-in-None
returns-in-None c = subst (λ (l : Stretch). false ≡ is_some (find is_ready l.entries)) c.self.view_is
    (ap is_some (sym (none_found is_ready _ (none_by_marks is_ready _ _ c.self.invariant.0.signed c.in-None.ensures.none))))
