use Rattle.queue.proofs.Names.{◌≡◌, ◌∙◌, [], sym, ap, subst, arith, false, List, None, find, get_or, is_some, vec_len, is_ready, is_held_as, held_as, change_first, Entry, Line, num, BitTurned, Stretch, parts, joined, some_pass}
use Rattle.queue.proofs.Filled.{bounded}
use Rattle.queue.proofs.Room.{room_same, kept_turned}
use Rattle.queue.proofs.Joined.{FirstIn, first_within, joined_found, joined_changed, joined_none, none_changed_in}
use Rattle.queue.proofs.Signed.{first_signed, none_signed}
use Rattle.queue.proofs.Calls.{block_within, ready_there, hold_there, free_there}
use Rattle.queue.proofs.indexed.IndexedStore.hold.Goals as goal

pub overflow_sub-self : goal.overflow_sub-self
overflow_sub-self c = (ready_there (parts c.self.inside.chain.blocks.items) c.self.inside.ready_count c.self.inside.live c.self.inside.ready_bytes c.in-Some.place c.self.invariant.1 (first_signed (parts c.self.inside.chain.blocks.items) c.self.inside.chain.signs c.in-Some.place c.self.invariant.0.marked.signed c.in-Some.ensures.some)).0

pub overflow_sub-self-in-Some : goal.overflow_sub-self-in-Some
overflow_sub-self-in-Some c =
    let there = (ready_there (parts c.self.inside.chain.blocks.items) c.self.inside.ready_count c.self.inside.live c.self.inside.ready_bytes c.in-Some.place c.self.invariant.1 (first_signed (parts c.self.inside.chain.blocks.items) c.self.inside.chain.signs c.in-Some.place c.self.invariant.0.marked.signed c.in-Some.ensures.some)).1.1 in
    let size = c.ready_bytes_at.ensures in
    omega (arith, size, there)

pub hold_at-arrival-requires-clause-distinct : goal.hold_at-arrival-requires-clause-distinct
hold_at-arrival-requires-clause-distinct c = free_there (parts c.self.inside.chain.blocks.items) c.in-Some.place c.args.holder (subst (λ (l : Line). find (is_held_as c.args.holder) l.entries ≡ None) (sym c.self.view_is) c.requires)

pub sign-requires : goal.sign-requires
sign-requires c =
    let lt = block_within is_ready c.self.inside.chain.blocks c.in-Some.place (first_signed (parts c.self.inside.chain.blocks.items) c.self.inside.chain.signs c.in-Some.place c.self.invariant.0.marked.signed c.in-Some.ensures.some).there in
    let u = c.self.invariant.0.marked.places.used in
    omega (arith, lt, u)

pub invariant_of-self : goal.invariant_of-self
invariant_of-self c =
    let first : FirstIn is_ready (parts c.self.inside.chain.blocks.items) c.in-Some.place = first_signed (parts c.self.inside.chain.blocks.items) c.self.inside.chain.signs c.in-Some.place c.self.invariant.0.marked.signed c.in-Some.ensures.some in
    let least = ready_there (parts c.self.inside.chain.blocks.items) c.self.inside.ready_count c.self.inside.live c.self.inside.ready_bytes c.in-Some.place c.self.invariant.1 first in
    let has = room_same c.self.inside.room c.self.inside.chain.blocks.items c.hold_at-arrival.new.blocks.items (vec_len c.self.inside.chain.spares) (λ some. c.hold_at-arrival.ensures.bounds.room) (λ z. c.hold_at-arrival.ensures.bounds.short (c.self.invariant.2.short z)) c.self.invariant.2 in
    let turned : BitTurned c.self.inside.chain.signs c.sign.new.signs c.in-Some.place (num (some_pass is_ready (get_or (parts c.hold_at-arrival.new.blocks.items) c.in-Some.place [])))
    = subst (λ (bs : List Stretch). BitTurned c.self.inside.chain.signs c.sign.new.signs c.in-Some.place (num (some_pass is_ready (get_or (parts bs) c.in-Some.place [])))) c.deref.ensures.value c.sign.ensures in (
      kept_turned c.self.inside.chain.blocks c.hold_at-arrival.new.blocks _ c.self.inside.chain.signs c.sign.new.signs c.self.inside.chain.spares c.in-Some.place (first_within is_ready (parts c.self.inside.chain.blocks.items) c.in-Some.place first.there) c.hold_at-arrival.ensures.bounds.size c.hold_at-arrival.ensures.parts turned c.self.invariant.0,
      hold_there (parts c.self.inside.chain.blocks.items) (parts c.hold_at-arrival.new.blocks.items) _ _ _ _ _ c.ready_bytes_at.result c.in-Some.place c.args.holder c.self.invariant.1 first
          (subst (λ (l : Line). find (is_held_as c.args.holder) l.entries ≡ None) (sym c.self.view_is) c.requires) c.hold_at-arrival.ensures.parts c.ready_bytes_at.ensures (omega (arith, least.0)) (let b = least.1.1 in let size = c.ready_bytes_at.ensures in omega (arith, size, b)),
      has,
      bounded c.self.inside.room c.self.inside.live c.hold_at-arrival.new.blocks.items c.self.inside.chain.spares (c.hold_at-arrival.ensures.bounds.filled 1024 c.self.invariant.3.filled) c.self.invariant.0.whole has c.self.invariant.3.fits,
    )

pub returns-in-None-clause-reported : goal.returns-in-None-clause-reported
returns-in-None-clause-reported c = subst (λ (l : Line). false ≡ is_some (find is_ready l.entries)) c.self.view_is
    (ap is_some (sym (joined_none is_ready (parts c.self.inside.chain.blocks.items) (none_signed (parts c.self.inside.chain.blocks.items) c.self.inside.chain.signs c.self.invariant.0.marked.signed c.in-None.ensures.none))))

pub returns-in-None-clause-entries : goal.returns-in-None-clause-entries
returns-in-None-clause-entries c = subst (λ (l : Line). l.entries ≡ change_first is_ready (held_as c.args.holder) l.entries) c.self.view_is
    (sym (none_changed_in is_ready (held_as c.args.holder) (joined (parts c.self.inside.chain.blocks.items)) (joined_none is_ready (parts c.self.inside.chain.blocks.items) (none_signed (parts c.self.inside.chain.blocks.items) c.self.inside.chain.signs c.self.invariant.0.marked.signed c.in-None.ensures.none))))

pub returns-in-Some-clause-reported : goal.returns-in-Some-clause-reported
returns-in-Some-clause-reported c = subst (λ (l : Line). is_some c.hold_at-arrival.result ≡ is_some (find is_ready l.entries)) c.self.view_is
    (c.hold_at-arrival.ensures.reported ∙ sym (ap is_some (joined_found is_ready (parts c.self.inside.chain.blocks.items) c.in-Some.place (first_signed (parts c.self.inside.chain.blocks.items) c.self.inside.chain.signs c.in-Some.place c.self.invariant.0.marked.signed c.in-Some.ensures.some))))

pub returns-in-Some-clause-entries : goal.returns-in-Some-clause-entries
returns-in-Some-clause-entries c = subst (λ (l : Line). joined (parts c.hold_at-arrival.new.blocks.items) ≡ change_first is_ready (held_as c.args.holder) l.entries) c.self.view_is
    (ap (λ (ps : List (List Entry)). joined ps) c.hold_at-arrival.ensures.parts ∙ sym (joined_changed is_ready (held_as c.args.holder) (parts c.self.inside.chain.blocks.items) c.in-Some.place (first_signed (parts c.self.inside.chain.blocks.items) c.self.inside.chain.signs c.in-Some.place c.self.invariant.0.marked.signed c.in-Some.ensures.some)))
