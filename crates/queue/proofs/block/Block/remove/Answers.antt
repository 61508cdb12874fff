use Rattle.queue.proofs.Names.{◌≡◌, ◌∙◌, sym, ap, subst, arith, List, true, filter, Option, None, find, get_or, Entry, is_held_as, contents, somes, slot_has, Slot, Stretch}
use Rattle.std.proofs.Common.{not}
use Rattle.queue.proofs.Places.{find_at, none_found, none_left_out, only_first, only_left_out}
use Rattle.queue.proofs.Slotted.{remove_shows, held_least, only_held, same_bits}
use Rattle.queue.proofs.Places.{NonePasses}
use Rattle.queue.proofs.block.Block.remove.Goals as goal

pub overflow_sub-self : goal.overflow_sub-self
overflow_sub-self c =
    let t = subst (λ (ss : List Slot). slot_has (is_held_as c.args.holder.now) (get_or (contents ss) c.in-Some.place None) ≡ true) c.deref.ensures.value c.in-Some.ensures.some in
    held_least _ _ _ _ c.args.holder.now c.self.invariant.0 t

pub invariant_of-self : goal.invariant_of-self
invariant_of-self c =
    let t = subst (λ (ss : List Slot). slot_has (is_held_as c.args.holder.now) (get_or (contents ss) c.in-Some.place None) ≡ true) c.deref.ensures.value c.in-Some.ensures.some in
    let least = held_least _ _ _ _ c.args.holder.now c.self.invariant.0 t in (
      remove_shows _ _ _ _ _ _ _ c.args.holder.now c.self.invariant.0 t c.clear.ensures c.take_at.ensures.contents (omega (arith, least)),
      same_bits _ _ _ _ c.self.invariant.1 c.take_at.ensures.size.1 c.clear.ensures.places,
    )

pub returns-in-None-clause-taken : goal.returns-in-None-clause-taken
returns-in-None-clause-taken c =
    let n : NonePasses (is_held_as c.args.holder.now) (contents c.deref.result.now) = record { no = c.in-None.ensures.none } in
    subst (λ (l : Stretch). ◌≡◌ {A = Option Entry} None (find (is_held_as c.args.holder.now) l.entries)) c.self.view_is
    (sym (none_found _ _ (subst (λ (ss : List Slot). NonePasses (is_held_as c.args.holder.now) (contents ss)) c.deref.ensures.value n)))

pub returns-in-None-clause-entries : goal.returns-in-None-clause-entries
returns-in-None-clause-entries c =
    let n : NonePasses (is_held_as c.args.holder.now) (contents c.deref.result.now) = record { no = c.in-None.ensures.none } in
    subst (λ (l : Stretch). l.entries ≡ filter (λ e. not (is_held_as c.args.holder.now e)) l.entries) c.self.view_is
    (sym (none_left_out _ _ (subst (λ (ss : List Slot). NonePasses (is_held_as c.args.holder.now) (contents ss)) c.deref.ensures.value n)))

pub returns-in-Some-clause-taken : goal.returns-in-Some-clause-taken
returns-in-Some-clause-taken c =
    let t = subst (λ (ss : List Slot). slot_has (is_held_as c.args.holder.now) (get_or (contents ss) c.in-Some.place None) ≡ true) c.deref.ensures.value c.in-Some.ensures.some in
    subst (λ (l : Stretch). c.take_at.result ≡ find (is_held_as c.args.holder.now) l.entries) c.self.view_is
    (c.take_at.ensures.taken ∙ sym (find_at _ _ _ (only_first _ _ _ (only_held _ _ _ _ c.args.holder.now c.self.invariant.0 t))))

pub returns-in-Some-clause-entries : goal.returns-in-Some-clause-entries
returns-in-Some-clause-entries c =
    let t = subst (λ (ss : List Slot). slot_has (is_held_as c.args.holder.now) (get_or (contents ss) c.in-Some.place None) ≡ true) c.deref.ensures.value c.in-Some.ensures.some in
    subst (λ (l : Stretch). somes (contents c.take_at.new.slots.items) ≡ filter (λ e. not (is_held_as c.args.holder.now e)) l.entries) c.self.view_is
    (ap somes c.take_at.ensures.contents ∙ sym (only_left_out _ _ _ (only_held _ _ _ _ c.args.holder.now c.self.invariant.0 t)))
