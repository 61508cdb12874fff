use Rattle.queue.proofs.Names.{◌≡◌, ◌∙◌, sym, ap, subst, List, true, false, Option, None, find, is_some, get_or, Entry, requeued, is_under, is_held_as, contents, somes, slot_has, Slot, Stretch}
use Rattle.queue.proofs.Places.{some_at, none_found, none_mapped, only_first, only_mapped}
use Rattle.queue.proofs.Slotted.{release_shows, only_held, same_bits, freed_same, slot_freed}
use Rattle.std.proofs.Math.ListN.{set}
use Rattle.queue.proofs.Places.{NonePasses}
use Rattle.queue.proofs.block.Block.release.Goals as goal

pub invariant_of-self : goal.invariant_of-self
invariant_of-self c =
    let t = subst (λ (ss : List Slot). slot_has (is_held_as c.args.holder.now) (get_or (contents ss) c.in-Some.place None) ≡ true) c.deref.ensures.value c.in-Some.ensures.some in (
      release_shows _ _ _ _ _ _ c.args.holder.now c.self.invariant.0 t c.set_ready.ensures c.free_at.ensures.contents,
      same_bits _ _ _ _ c.self.invariant.1 c.free_at.ensures.size.1 c.set_ready.ensures.places,
    )

pub returns-in-None-clause-reported : goal.returns-in-None-clause-reported
returns-in-None-clause-reported c =
    let n : NonePasses (is_held_as c.args.holder.now) (contents c.deref.result.now) = record { no = c.in-None.ensures.none } in
    subst (λ (l : Stretch). false ≡ is_some (find (is_held_as c.args.holder.now) l.entries)) c.self.view_is
    (ap is_some (sym (none_found _ _ (subst (λ (ss : List Slot). NonePasses (is_held_as c.args.holder.now) (contents ss)) c.deref.ensures.value n))))

pub returns-in-None-clause-entries : goal.returns-in-None-clause-entries
returns-in-None-clause-entries c =
    let n : NonePasses (is_held_as c.args.holder.now) (contents c.deref.result.now) = record { no = c.in-None.ensures.none } in
    subst (λ (l : Stretch). l.entries ≡ requeued (is_under c.args.holder.now) l.entries) c.self.view_is
    (sym (none_mapped _ _ (freed_same (is_under c.args.holder.now)) _ (subst (λ (ss : List Slot). NonePasses (is_held_as c.args.holder.now) (contents ss)) c.deref.ensures.value n)))

pub returns-in-Some-clause-reported : goal.returns-in-Some-clause-reported
returns-in-Some-clause-reported c =
    let t = subst (λ (ss : List Slot). slot_has (is_held_as c.args.holder.now) (get_or (contents ss) c.in-Some.place None) ≡ true) c.deref.ensures.value c.in-Some.ensures.some in
    subst (λ (l : Stretch). true ≡ is_some (find (is_held_as c.args.holder.now) l.entries)) c.self.view_is
    (sym (some_at _ _ _ (only_first _ _ _ (only_held _ _ _ _ c.args.holder.now c.self.invariant.0 t))))

pub returns-in-Some-clause-entries : goal.returns-in-Some-clause-entries
returns-in-Some-clause-entries c =
    let t = subst (λ (ss : List Slot). slot_has (is_held_as c.args.holder.now) (get_or (contents ss) c.in-Some.place None) ≡ true) c.deref.ensures.value c.in-Some.ensures.some in
    subst (λ (l : Stretch). somes (contents c.free_at.new.slots.items) ≡ requeued (is_under c.args.holder.now) l.entries) c.self.view_is
    (ap somes (c.free_at.ensures.contents ∙ ap (λ (o : Option Entry). set (contents c.self.inside.slots.items) c.in-Some.place o) (sym (slot_freed (is_under c.args.holder.now) _ t))) ∙ sym (only_mapped _ _ (freed_same (is_under c.args.holder.now)) _ _ (only_held _ _ _ _ c.args.holder.now c.self.invariant.0 t)))
