use Rattle.queue.proofs.Names.{◌≡◌, ◌∙◌, sym, ap, subst, List, true, Option, None, find, get_or, option_map, Entry, is_held_as, contents, slot_has, Slot, Stretch}
use Rattle.queue.proofs.Places.{find_at, none_found, only_first}
use Rattle.queue.proofs.Slotted.{only_held}
use Rattle.queue.proofs.Places.{NonePasses}
use Rattle.queue.proofs.block.Block.held.Goals as goal

pub returns-in-None : goal.returns-in-None
returns-in-None c =
    let n : NonePasses (is_held_as c.args.holder.now) (contents c.deref.result.now) = record { no = c.in-None.ensures.none } in
    subst (λ (l : Stretch). ◌≡◌ {A = Option Entry} None (find (is_held_as c.args.holder.now) l.entries)) c.self.view_is
    (sym (none_found _ _ (subst (λ (ss : List Slot). NonePasses (is_held_as c.args.holder.now) (contents ss)) c.deref.ensures.value n)))

pub returns-in-Some : goal.returns-in-Some
returns-in-Some c =
    let t = subst (λ (ss : List Slot). slot_has (is_held_as c.args.holder.now) (get_or (contents ss) c.in-Some.place None) ≡ true) c.deref.ensures.value c.in-Some.ensures.some in
    subst (λ (l : Stretch). option_map (λ e. e.now) c.entry_at.result ≡ find (is_held_as c.args.holder.now) l.entries) c.self.view_is
    (c.entry_at.ensures ∙ ap (λ (ss : List Slot). get_or (contents ss) c.in-Some.place None) c.deref-in-Some.ensures.value
    ∙ sym (find_at _ _ _ (only_first _ _ _ (only_held _ _ _ _ c.args.holder.now c.self.invariant.0 t))))
