use Rattle.queue.proofs.Names.{◌≡◌, ◌∙◌, ◌-◌, sym, ap, subst, arith, List, Option, None, find, vec_len, is_ready, without_first, Entry, Line, parts, joined, IsCounted}
use Rattle.queue.proofs.Filled.{bounded}
use Rattle.queue.proofs.Room.{room_same, marked_same, kept_still}
use Rattle.queue.proofs.Joined.{FirstIn, joined_found, joined_without, joined_none, none_without_in}
use Rattle.queue.proofs.Signed.{first_signed, none_signed}
use Rattle.queue.proofs.Calls.{block_within, ready_there, take_now}
use Rattle.queue.proofs.indexed.IndexedStore.take_first.Goals as goal

pub overflow_sub-self : goal.overflow_sub-self
overflow_sub-self c = (ready_there (parts c.self.inside.chain.blocks.items) c.self.inside.ready_count c.self.inside.live c.self.inside.ready_bytes c.in-Some.place c.self.invariant.1 (first_signed (parts c.self.inside.chain.blocks.items) c.self.inside.chain.signs c.in-Some.place c.self.invariant.0.marked.signed c.in-Some.ensures.some)).0

pub overflow_sub-self-in-Some : goal.overflow_sub-self-in-Some
overflow_sub-self-in-Some c =
    let there = (ready_there (parts c.self.inside.chain.blocks.items) c.self.inside.ready_count c.self.inside.live c.self.inside.ready_bytes c.in-Some.place c.self.invariant.1 (first_signed (parts c.self.inside.chain.blocks.items) c.self.inside.chain.signs c.in-Some.place c.self.invariant.0.marked.signed c.in-Some.ensures.some)).1.1 in
    let size = c.ready_bytes_at.ensures in
    omega (arith, size, there)

pub overflow_sub-self-in-Some-2 : goal.overflow_sub-self-in-Some-2
overflow_sub-self-in-Some-2 c = (ready_there (parts c.self.inside.chain.blocks.items) c.self.inside.ready_count c.self.inside.live c.self.inside.ready_bytes c.in-Some.place c.self.invariant.1 (first_signed (parts c.self.inside.chain.blocks.items) c.self.inside.chain.signs c.in-Some.place c.self.invariant.0.marked.signed c.in-Some.ensures.some)).1.0

pub sign-requires : goal.sign-requires
sign-requires c =
    let lt = block_within is_ready c.self.inside.chain.blocks c.in-Some.place (first_signed (parts c.self.inside.chain.blocks.items) c.self.inside.chain.signs c.in-Some.place c.self.invariant.0.marked.signed c.in-Some.ensures.some).there in
    let u = c.self.invariant.0.marked.places.used in
    omega (arith, lt, u)

pub settle-requires-clause-distinct : goal.settle-requires-clause-distinct
settle-requires-clause-distinct c =
    let first : FirstIn is_ready (parts c.self.inside.chain.blocks.items) c.in-Some.place = first_signed (parts c.self.inside.chain.blocks.items) c.self.inside.chain.signs c.in-Some.place c.self.invariant.0.marked.signed c.in-Some.ensures.some in
    (take_now (parts c.self.inside.chain.blocks.items) (parts c.take_at-entry.new.blocks.items) _ _ _ c.ready_bytes_at.result c.in-Some.place c.self.invariant.1 first c.take_at-entry.ensures.parts c.ready_bytes_at.ensures).distinct

pub invariant_of-self : goal.invariant_of-self
invariant_of-self c =
    let first : FirstIn is_ready (parts c.self.inside.chain.blocks.items) c.in-Some.place = first_signed (parts c.self.inside.chain.blocks.items) c.self.inside.chain.signs c.in-Some.place c.self.invariant.0.marked.signed c.in-Some.ensures.some in
    let least = ready_there (parts c.self.inside.chain.blocks.items) c.self.inside.ready_count c.self.inside.live c.self.inside.ready_bytes c.in-Some.place c.self.invariant.1 first in
    let counted = take_now (parts c.self.inside.chain.blocks.items) (parts c.take_at-entry.new.blocks.items) _ _ _ c.ready_bytes_at.result c.in-Some.place c.self.invariant.1 first c.take_at-entry.ensures.parts c.ready_bytes_at.ensures in
    let has = room_same c.self.inside.room c.self.inside.chain.blocks.items c.give_back_spare.new.blocks.items (vec_len c.self.inside.chain.spares) (λ some. c.give_back_spare.ensures.room some ∙ c.settle.ensures.room ∙ c.take_at-entry.ensures.bounds.room) c.give_back_spare.ensures.spare c.self.invariant.2 in
    let same : joined (parts c.give_back_spare.new.blocks.items) ≡ joined (parts c.take_at-entry.new.blocks.items) = ap (λ (ps : List (List Entry)). joined ps) c.give_back_spare.ensures.parts ∙ c.settle.ensures.entries in (
      kept_still c.self.inside.chain.blocks c.give_back_spare.new.blocks c.self.inside.chain.signs c.settle.new.signs c.self.inside.chain.spares (marked_same c.settle.new.blocks _ _ c.give_back_spare.ensures.size c.give_back_spare.ensures.parts c.settle.ensures.marked)
          (let n = c.give_back_spare.ensures.size.0 in let m = c.settle.ensures.len in let k = c.take_at-entry.ensures.bounds.size.0 in omega (arith, n, m, k)) (c.settle.ensures.signs ∙ c.sign.ensures.places) c.self.invariant.0,
      subst (λ (es : List Entry). IsCounted es (c.self.inside.ready_count - 1) (c.self.inside.live - 1) (c.self.inside.ready_bytes - c.ready_bytes_at.result)) (sym same) counted,
      has,
      bounded c.self.inside.room (c.self.inside.live - 1) c.give_back_spare.new.blocks.items c.self.inside.chain.spares
          (c.give_back_spare.ensures.filled 1024 (c.settle.ensures.filled 1024 (c.take_at-entry.ensures.bounds.filled 1024 c.self.invariant.3.filled))) c.self.invariant.0.whole has (let f = c.self.invariant.3.fits in omega (arith, f)),
    )

pub returns-in-None-clause-taken : goal.returns-in-None-clause-taken
returns-in-None-clause-taken c = subst (λ (l : Line). ◌≡◌ {A = Option Entry} None (find is_ready l.entries)) c.self.view_is
    (sym (joined_none is_ready (parts c.self.inside.chain.blocks.items) (none_signed (parts c.self.inside.chain.blocks.items) c.self.inside.chain.signs c.self.invariant.0.marked.signed c.in-None.ensures.none)))

pub returns-in-None-clause-entries : goal.returns-in-None-clause-entries
returns-in-None-clause-entries c = subst (λ (l : Line). l.entries ≡ without_first is_ready l.entries) c.self.view_is
    (sym (none_without_in is_ready (joined (parts c.self.inside.chain.blocks.items)) (joined_none is_ready (parts c.self.inside.chain.blocks.items) (none_signed (parts c.self.inside.chain.blocks.items) c.self.inside.chain.signs c.self.invariant.0.marked.signed c.in-None.ensures.none))))

pub returns-in-Some-clause-taken : goal.returns-in-Some-clause-taken
returns-in-Some-clause-taken c = subst (λ (l : Line). c.take_at-entry.result ≡ find is_ready l.entries) c.self.view_is
    (c.take_at-entry.ensures.taken ∙ sym (joined_found is_ready (parts c.self.inside.chain.blocks.items) c.in-Some.place (first_signed (parts c.self.inside.chain.blocks.items) c.self.inside.chain.signs c.in-Some.place c.self.invariant.0.marked.signed c.in-Some.ensures.some)))

pub returns-in-Some-clause-entries : goal.returns-in-Some-clause-entries
returns-in-Some-clause-entries c = subst (λ (l : Line). joined (parts c.give_back_spare.new.blocks.items) ≡ without_first is_ready l.entries) c.self.view_is
    (ap (λ (ps : List (List Entry)). joined ps) c.give_back_spare.ensures.parts ∙ c.settle.ensures.entries ∙ ap (λ (ps : List (List Entry)). joined ps) c.take_at-entry.ensures.parts ∙ sym (joined_without is_ready (parts c.self.inside.chain.blocks.items) c.in-Some.place (first_signed (parts c.self.inside.chain.blocks.items) c.self.inside.chain.signs c.in-Some.place c.self.invariant.0.marked.signed c.in-Some.ensures.some)))
