use Rattle.queue.proofs.Names.{◌≡◌, ◌∙◌, List, drop, length, ap, map, take_at, survived_now, Line, Stretch, parts, joined, survived_block, vec_len}
use Rattle.queue.proofs.Filled.{bounded, filled_alike, short_alike, stood_alike}
use Rattle.queue.proofs.Room.{room_same}
use Rattle.queue.proofs.Stood.{stood_counted}
use Rattle.queue.proofs.Signed.{joined_stood, room-stood, signed_stood}
use Rattle.queue.proofs.indexed.IndexedStore.mark_reloaded.Goals as goal

pub invariant_of-self : goal.invariant_of-self
invariant_of-self c =
    let new = c.mark_reloaded_in.new.blocks in
    let back = take_at new (drop (length new) c.self.inside.chain.blocks.items) c.self.inside.chain.blocks.len (c.mark_reloaded_in.auto.blocks ∙ c.deref_mut.ensures.len) in
    let is : new ≡ map survived_block c.self.inside.chain.blocks.items = c.mark_reloaded_in.ensures ∙ ap (λ (bs : List Stretch). map survived_block bs) c.deref_mut.ensures.value in
    let alike = stood_alike c.self.inside.chain.blocks.items in
    let has = room_same c.self.inside.room c.self.inside.chain.blocks.items (map survived_block c.self.inside.chain.blocks.items) (vec_len c.self.inside.chain.spares) (λ some. room-stood 0 c.self.inside.chain.blocks.items) (λ z. short_alike _ _ alike (c.self.invariant.2.short z)) c.self.invariant.2 in (
      record { marked = record { signed = rw (back, is) (signed_stood c.self.inside.chain.blocks.items c.self.inside.chain.signs c.self.invariant.0.marked.signed); places = c.self.invariant.0.marked.places }; held = c.self.invariant.0.held; whole = c.self.invariant.0.whole },
      rw (back, is, joined_stood c.self.inside.chain.blocks.items) (stood_counted (joined (parts c.self.inside.chain.blocks.items)) c.self.inside.ready_count c.self.inside.live c.self.inside.ready_bytes c.self.invariant.1),
      rw (back, is) has,
      rw (back, is) (bounded c.self.inside.room c.self.inside.live (map survived_block c.self.inside.chain.blocks.items) c.self.inside.chain.spares (filled_alike 1024 _ _ alike c.self.invariant.3.filled) c.self.invariant.0.whole has c.self.invariant.3.fits),
    )

pub returns-clause-entries : goal.returns-clause-entries
returns-clause-entries c =
    let new = c.mark_reloaded_in.new.blocks in
    let back = take_at new (drop (length new) c.self.inside.chain.blocks.items) c.self.inside.chain.blocks.len (c.mark_reloaded_in.auto.blocks ∙ c.deref_mut.ensures.len) in
    let is : new ≡ map survived_block c.self.inside.chain.blocks.items = c.mark_reloaded_in.ensures ∙ ap (λ (bs : List Stretch). map survived_block bs) c.deref_mut.ensures.value in
    ap (λ (bs : List Stretch). joined (parts bs)) (back ∙ is)
    ∙ joined_stood c.self.inside.chain.blocks.items
    ∙ ap (λ (l : Line). map survived_now l.entries) c.self.view_is
