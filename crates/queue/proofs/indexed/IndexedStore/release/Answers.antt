use Rattle.queue.proofs.Names.{◌≡◌, ◌∙◌, [], sym, ap, refl, subst, arith, List, true, false, find, is_some, get_or, vec_len, is_ready, is_under, is_held_as, Entry, Line, requeued, num, BitTurned, Stretch, parts, joined, some_pass}
use Rattle.queue.proofs.Filled.{bounded}
use Rattle.queue.proofs.Room.{room_same, kept_turned}
use Rattle.queue.proofs.Joined.{first_within, joined_found}
use Rattle.queue.proofs.Counts.{counts_most}
use Rattle.queue.proofs.Calls.{block_within, nothing_found, nothing_freed, held_first, held_there, freed_there_is, release_there}
use Rattle.queue.proofs.indexed.IndexedStore.release.Goals as goal

pub overflow_add-self : goal.overflow_add-self
overflow_add-self c =
    let least = (held_there (parts c.self.inside.chain.blocks.items) c.self.inside.ready_count c.self.inside.live c.self.inside.ready_bytes c.in-Some.field-0.block c.args.holder.now c.self.invariant.1 c.in-Some.ensures.some).1.0 in
    omega (arith, least)

pub overflow_add-self-in-Some : goal.overflow_add-self-in-Some
overflow_add-self-in-Some c =
    let least = (held_there (parts c.self.inside.chain.blocks.items) c.self.inside.ready_count c.self.inside.live c.self.inside.ready_bytes c.in-Some.field-0.block c.args.holder.now c.self.invariant.1 c.in-Some.ensures.some).1.1 in
    let most = (counts_most (joined (parts c.self.inside.chain.blocks.items)) c.self.inside.ready_count c.self.inside.live c.self.inside.ready_bytes c.self.invariant.1).1 in
    let size = c.held_bytes_at.ensures in
    omega (arith, size, least, most)

pub free_at-requires : goal.free_at-requires
free_at-requires c = block_within (is_held_as c.args.holder.now) c.self.inside.chain.blocks c.in-Some.field-0.block c.in-Some.ensures.some

pub sign-requires : goal.sign-requires
sign-requires c =
    let lt = block_within (is_held_as c.args.holder.now) c.self.inside.chain.blocks c.in-Some.field-0.block c.in-Some.ensures.some in
    let u = c.self.invariant.0.marked.places.used in
    omega (arith, lt, u)

pub invariant_of-self : goal.invariant_of-self
invariant_of-self c =
    let has = room_same c.self.inside.room c.self.inside.chain.blocks.items c.free_at.new.blocks.items (vec_len c.self.inside.chain.spares) (λ some. c.free_at.ensures.bounds.room) (λ z. c.free_at.ensures.bounds.short (c.self.invariant.2.short z)) c.self.invariant.2 in
    let turned : BitTurned c.self.inside.chain.signs c.sign.new.signs c.in-Some.field-0.block (num (some_pass is_ready (get_or (parts c.free_at.new.blocks.items) c.in-Some.field-0.block [])))
    = subst (λ (bs : List Stretch). BitTurned c.self.inside.chain.signs c.sign.new.signs c.in-Some.field-0.block (num (some_pass is_ready (get_or (parts bs) c.in-Some.field-0.block [])))) c.deref.ensures.value c.sign.ensures in (
      kept_turned c.self.inside.chain.blocks c.free_at.new.blocks _ c.self.inside.chain.signs c.sign.new.signs c.self.inside.chain.spares c.in-Some.field-0.block (first_within (is_held_as c.args.holder.now) (parts c.self.inside.chain.blocks.items) c.in-Some.field-0.block c.in-Some.ensures.some) c.free_at.ensures.bounds.size c.free_at.ensures.parts turned c.self.invariant.0,
      release_there (parts c.self.inside.chain.blocks.items) (parts c.free_at.new.blocks.items) _ _ _ _ _ c.held_bytes_at.result c.in-Some.field-0.block c.args.holder.now c.self.invariant.1 c.in-Some.ensures.some c.free_at.ensures.parts c.held_bytes_at.ensures refl refl,
      has,
      bounded c.self.inside.room c.self.inside.live c.free_at.new.blocks.items c.self.inside.chain.spares (c.free_at.ensures.bounds.filled 1024 c.self.invariant.3.filled) c.self.invariant.0.whole has c.self.invariant.3.fits,
    )

pub returns-in-None-clause-reported : goal.returns-in-None-clause-reported
returns-in-None-clause-reported c =
    subst (λ (l : Line). false ≡ is_some (find (is_held_as c.args.holder.now) l.entries)) c.self.view_is
    (ap is_some (sym (nothing_found (is_held_as c.args.holder.now) (parts c.self.inside.chain.blocks.items) c.in-None.ensures.none)))

pub returns-in-None-clause-entries : goal.returns-in-None-clause-entries
returns-in-None-clause-entries c =
    subst (λ (l : Line). l.entries ≡ requeued (is_under c.args.holder.now) l.entries) c.self.view_is
    (sym (nothing_freed (parts c.self.inside.chain.blocks.items) c.args.holder.now c.in-None.ensures.none))

pub returns-in-Some-clause-reported : goal.returns-in-Some-clause-reported
returns-in-Some-clause-reported c =
    subst (λ (l : Line). true ≡ is_some (find (is_held_as c.args.holder.now) l.entries)) c.self.view_is
    (sym (ap is_some (joined_found (is_held_as c.args.holder.now) (parts c.self.inside.chain.blocks.items) c.in-Some.field-0.block (held_first (parts c.self.inside.chain.blocks.items) c.self.inside.ready_count c.self.inside.live c.self.inside.ready_bytes c.in-Some.field-0.block c.args.holder.now c.self.invariant.1 c.in-Some.ensures.some)) ∙ c.in-Some.ensures.some))

pub returns-in-Some-clause-entries : goal.returns-in-Some-clause-entries
returns-in-Some-clause-entries c =
    subst (λ (l : Line). joined (parts c.free_at.new.blocks.items) ≡ requeued (is_under c.args.holder.now) l.entries) c.self.view_is
    (ap (λ (ps : List (List Entry)). joined ps) c.free_at.ensures.parts ∙ sym (freed_there_is (parts c.self.inside.chain.blocks.items) c.self.inside.ready_count c.self.inside.live c.self.inside.ready_bytes c.in-Some.field-0.block c.args.holder.now c.self.invariant.1 c.in-Some.ensures.some))
