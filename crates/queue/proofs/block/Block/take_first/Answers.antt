use Rattle.queue.proofs.Names.{◌≡◌, ◌∙◌, sym, ap, subst, arith, Option, None, find, is_ready, Entry, without_first, contents, somes, Stretch}
use Rattle.queue.proofs.Places.{remove_at, find_at, none_found, none_removed}
use Rattle.queue.proofs.Slotted.{first_by_marks, none_by_marks, take_shows, ready_least, same_bits}
use Rattle.queue.proofs.block.Block.take_first.Goals as goal

pub overflow_sub-self : goal.overflow_sub-self
overflow_sub-self c = ready_least _ _ _ _ c.self.invariant.0 c.in-Some.ensures.some

pub invariant_of-self : goal.invariant_of-self
invariant_of-self c =
    let least = ready_least _ _ _ _ c.self.invariant.0 c.in-Some.ensures.some in (
      take_shows _ _ _ _ _ _ _ c.self.invariant.0 c.in-Some.ensures.some c.clear.ensures c.take_at.ensures.contents (omega (arith, least)),
      same_bits _ _ _ _ c.self.invariant.1 c.take_at.ensures.size.1 c.clear.ensures.places,
    )

pub returns-in-None-clause-taken : goal.returns-in-None-clause-taken
returns-in-None-clause-taken c = subst (λ (l : Stretch). ◌≡◌ {A = Option Entry} None (find is_ready l.entries)) c.self.view_is
    (sym (none_found is_ready _ (none_by_marks is_ready _ _ c.self.invariant.0.signed c.in-None.ensures.none)))

pub returns-in-None-clause-entries : goal.returns-in-None-clause-entries
returns-in-None-clause-entries c = subst (λ (l : Stretch). l.entries ≡ without_first is_ready l.entries) c.self.view_is
    (sym (none_removed is_ready _ (none_by_marks is_ready _ _ c.self.invariant.0.signed c.in-None.ensures.none)))

pub returns-in-Some-clause-taken : goal.returns-in-Some-clause-taken
returns-in-Some-clause-taken c = subst (λ (l : Stretch). c.take_at.result ≡ find is_ready l.entries) c.self.view_is
    (c.take_at.ensures.taken ∙ sym (find_at is_ready _ _ (first_by_marks is_ready _ _ _ c.self.invariant.0.signed c.in-Some.ensures.some)))

pub returns-in-Some-clause-entries : goal.returns-in-Some-clause-entries
returns-in-Some-clause-entries c = subst (λ (l : Stretch). somes (contents c.take_at.new.slots.items) ≡ without_first is_ready l.entries) c.self.view_is
    (ap somes c.take_at.ensures.contents ∙ sym (remove_at is_ready _ _ (first_by_marks is_ready _ _ _ c.self.invariant.0.signed c.in-Some.ensures.some)))
