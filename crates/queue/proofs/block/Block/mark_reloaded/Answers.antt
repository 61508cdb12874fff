use Rattle.queue.proofs.Names.{◌≡◌, ◌∙◌, ◌-◌, ℕ, List, Option, drop, length, ap, map, vec_len, vec_capacity, take_at, survived_now, Entry, Stretch, survived_block, changed, contents, somes, Slot}
use Rattle.queue.proofs.Stood.{somes-changed, stood_shows}
use Rattle.queue.proofs.block.Block.mark_reloaded.Goals as goal

pub invariant_of-self : goal.invariant_of-self
invariant_of-self c =
    let new = c.mark_reloaded_in.new.slots in
    let back = take_at new (drop (length new) c.self.inside.slots.items) c.self.inside.slots.len (c.mark_reloaded_in.auto.slots ∙ c.deref_mut.ensures.len) in
    let is : contents new ≡ map (changed survived_now) (contents c.self.inside.slots.items) = c.mark_reloaded_in.ensures ∙ ap (λ (ss : List Slot). map (changed survived_now) (contents ss)) c.deref_mut.ensures.value in
    rw (back, is) (
      stood_shows (contents c.self.inside.slots.items) _ _ c.self.invariant.0,
      c.self.invariant.1,
    )

pub returns : goal.returns
returns c =
    let new = c.mark_reloaded_in.new.slots in
    let back = take_at new (drop (length new) c.self.inside.slots.items) c.self.inside.slots.len (c.mark_reloaded_in.auto.slots ∙ c.deref_mut.ensures.len) in
    let is : contents new ≡ map (changed survived_now) (contents c.self.inside.slots.items) = c.mark_reloaded_in.ensures ∙ ap (λ (ss : List Slot). map (changed survived_now) (contents ss)) c.deref_mut.ensures.value in
    with_entries _ _ (vec_capacity c.self.inside.slots - vec_len c.self.inside.slots) (vec_capacity c.self.inside.slots)
    (ap (λ (ss : List Slot). somes (contents ss)) back ∙ ap (λ (os : List (Option Entry)). somes os) is ∙ somes-changed survived_now (contents c.self.inside.slots.items))
    ∙ ap survived_block c.self.view_is
  where
    stretch : ℕ → ℕ → List Entry → Stretch
    stretch room slots es = record { entries = es; room = room; slots = slots }

    with_entries : (es es' : List Entry) (room slots : ℕ) → es ≡ es' → stretch room slots es ≡ stretch room slots es'
    with_entries es es' room slots e = ap (stretch room slots) e
