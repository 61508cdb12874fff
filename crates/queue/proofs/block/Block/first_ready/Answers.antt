use Rattle.queue.proofs.Names.{◌≡◌, ◌∙◌, sym, ap, subst, List, Option, None, find, get_or, option_map, is_ready, Entry, contents, Slot, Stretch}
use Rattle.queue.proofs.Places.{find_at, none_found}
use Rattle.queue.proofs.Slotted.{first_by_marks, none_by_marks}
use Rattle.queue.proofs.block.Block.first_ready.Goals as goal

pub returns-in-Some : goal.returns-in-Some
returns-in-Some c = subst (λ (l : Stretch). option_map (λ e. e.now) c.entry_at.result ≡ find is_ready l.entries) c.self.view_is
    (c.entry_at.ensures ∙ ap (λ (ss : List Slot). get_or (contents ss) c.in-Some.place None) c.deref.ensures.value
    ∙ sym (find_at is_ready _ _ (first_by_marks is_ready _ _ _ c.self.invariant.0.signed c.in-Some.ensures.some)))

pub returns-in-None : goal.returns-in-None
returns-in-None c = subst (λ (l : Stretch). ◌≡◌ {A = Option Entry} None (find is_ready l.entries)) c.self.view_is
    (sym (none_found is_ready _ (none_by_marks is_ready _ _ c.self.invariant.0.signed c.in-None.ensures.none)))
