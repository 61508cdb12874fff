use Rattle.queue.proofs.Names.{◌≡◌, ◌∙◌, sym, ap, subst, true, false, None, find, is_some, is_ready, is_held_as, held_as, change_first, contents, somes, Stretch}
use Rattle.queue.proofs.Places.{change_at, some_at, none_found, none_changed}
use Rattle.queue.proofs.Slotted.{first_by_marks, none_by_marks, hold_shows, same_bits}
use Rattle.queue.proofs.block.Block.hold.Goals as goal

pub invariant_of-self : goal.invariant_of-self
invariant_of-self c = (
  hold_shows _ _ _ _ _ _ c.args.holder c.self.invariant.0 c.in-Some.ensures.some c.clear.ensures c.hold_at.ensures.contents
      (subst (λ (l : Stretch). find (is_held_as c.args.holder) l.entries ≡ None) (sym c.self.view_is) c.requires),
  same_bits _ _ _ _ c.self.invariant.1 c.hold_at.ensures.size.1 c.clear.ensures.places,
)

pub returns-in-None-clause-reported : goal.returns-in-None-clause-reported
returns-in-None-clause-reported c = subst (λ (l : Stretch). false ≡ is_some (find is_ready l.entries)) c.self.view_is
    (ap is_some (sym (none_found is_ready _ (none_by_marks is_ready _ _ c.self.invariant.0.signed c.in-None.ensures.none))))

pub returns-in-None-clause-entries : goal.returns-in-None-clause-entries
returns-in-None-clause-entries c = subst (λ (l : Stretch). l.entries ≡ change_first is_ready (held_as c.args.holder) l.entries) c.self.view_is
    (sym (none_changed is_ready _ _ (none_by_marks is_ready _ _ c.self.invariant.0.signed c.in-None.ensures.none)))

pub returns-in-Some-clause-reported : goal.returns-in-Some-clause-reported
returns-in-Some-clause-reported c = subst (λ (l : Stretch). true ≡ is_some (find is_ready l.entries)) c.self.view_is
    (sym (some_at is_ready _ _ (first_by_marks is_ready _ _ _ c.self.invariant.0.signed c.in-Some.ensures.some)))

pub returns-in-Some-clause-entries : goal.returns-in-Some-clause-entries
returns-in-Some-clause-entries c = subst (λ (l : Stretch). somes (contents c.hold_at.new.slots.items) ≡ change_first is_ready (held_as c.args.holder) l.entries) c.self.view_is
    (ap somes c.hold_at.ensures.contents ∙ sym (change_at is_ready _ _ _ (first_by_marks is_ready _ _ _ c.self.invariant.0.signed c.in-Some.ensures.some)))
