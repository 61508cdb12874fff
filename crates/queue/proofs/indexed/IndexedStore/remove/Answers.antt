use Rattle.queue.proofs.Names.{◌≡◌, ◌∙◌, ◌-◌, sym, ap, subst, arith, List, Option, None, find, filter, vec_len, is_held_as, Entry, Line, parts, joined, IsCounted}
use Rattle.std.proofs.Common.{not}
use Rattle.queue.proofs.Filled.{bounded}
use Rattle.queue.proofs.Room.{room_same, marked_same, kept_still}
use Rattle.queue.proofs.Joined.{joined_found, part_once}
use Rattle.queue.proofs.Calls.{block_within, nothing_found, nothing_left_out, held_first, held_there, left_out_is, remove_now}
use Rattle.queue.proofs.indexed.IndexedStore.remove.Goals as goal

pub overflow_sub-self : goal.overflow_sub-self
overflow_sub-self c =
    (held_there (parts c.self.inside.chain.blocks.items) c.self.inside.ready_count c.self.inside.live c.self.inside.ready_bytes c.in-Some.field-0.block c.args.holder.now c.self.invariant.1 c.in-Some.ensures.some).0

pub sign-requires : goal.sign-requires
sign-requires c =
    let lt = block_within (is_held_as c.args.holder.now) c.self.inside.chain.blocks c.in-Some.field-0.block c.in-Some.ensures.some in
    let u = c.self.invariant.0.marked.places.used in
    omega (arith, lt, u)

pub remove_at-entry-requires-clause-once : goal.remove_at-entry-requires-clause-once
remove_at-entry-requires-clause-once c = part_once (is_held_as c.args.holder.now) (parts c.self.inside.chain.blocks.items) c.in-Some.field-0.block (c.self.invariant.1.distinct c.args.holder.now)

pub settle-requires-clause-distinct : goal.settle-requires-clause-distinct
settle-requires-clause-distinct c =
    (remove_now (parts c.self.inside.chain.blocks.items) (parts c.remove_at-entry.new.blocks.items) _ _ _ c.in-Some.field-0.block c.args.holder.now c.self.invariant.1 c.in-Some.ensures.some c.remove_at-entry.ensures.parts).distinct

pub invariant_of-self : goal.invariant_of-self
invariant_of-self c =
    let least = held_there (parts c.self.inside.chain.blocks.items) c.self.inside.ready_count c.self.inside.live c.self.inside.ready_bytes c.in-Some.field-0.block c.args.holder.now c.self.invariant.1 c.in-Some.ensures.some in
    let counted = remove_now (parts c.self.inside.chain.blocks.items) (parts c.remove_at-entry.new.blocks.items) _ _ _ c.in-Some.field-0.block c.args.holder.now c.self.invariant.1 c.in-Some.ensures.some c.remove_at-entry.ensures.parts in
    let has = room_same c.self.inside.room c.self.inside.chain.blocks.items c.give_back_spare.new.blocks.items (vec_len c.self.inside.chain.spares) (λ some. c.give_back_spare.ensures.room some ∙ c.settle.ensures.room ∙ c.remove_at-entry.ensures.bounds.room) c.give_back_spare.ensures.spare c.self.invariant.2 in
    let same : joined (parts c.give_back_spare.new.blocks.items) ≡ joined (parts c.remove_at-entry.new.blocks.items) = ap (λ (ps : List (List Entry)). joined ps) c.give_back_spare.ensures.parts ∙ c.settle.ensures.entries in (
      kept_still c.self.inside.chain.blocks c.give_back_spare.new.blocks c.self.inside.chain.signs c.settle.new.signs c.self.inside.chain.spares (marked_same c.settle.new.blocks _ _ c.give_back_spare.ensures.size c.give_back_spare.ensures.parts c.settle.ensures.marked)
          (let n = c.give_back_spare.ensures.size.0 in let m = c.settle.ensures.len in let k = c.remove_at-entry.ensures.bounds.size.0 in omega (arith, n, m, k)) (c.settle.ensures.signs ∙ c.sign.ensures.places) c.self.invariant.0,
      subst (λ (es : List Entry). IsCounted es c.self.inside.ready_count (c.self.inside.live - 1) c.self.inside.ready_bytes) (sym same) counted,
      has,
      bounded c.self.inside.room (c.self.inside.live - 1) c.give_back_spare.new.blocks.items c.self.inside.chain.spares
          (c.give_back_spare.ensures.filled 1024 (c.settle.ensures.filled 1024 (c.remove_at-entry.ensures.bounds.filled 1024 c.self.invariant.3.filled))) c.self.invariant.0.whole has (let f = c.self.invariant.3.fits in omega (arith, f)),
    )

pub returns-in-None-clause-taken : goal.returns-in-None-clause-taken
returns-in-None-clause-taken c =
    subst (λ (l : Line). ◌≡◌ {A = Option Entry} None (find (is_held_as c.args.holder.now) l.entries)) c.self.view_is
    (sym (nothing_found (is_held_as c.args.holder.now) (parts c.self.inside.chain.blocks.items) c.in-None.ensures.none))

pub returns-in-None-clause-entries : goal.returns-in-None-clause-entries
returns-in-None-clause-entries c =
    subst (λ (l : Line). l.entries ≡ filter (λ e. not (is_held_as c.args.holder.now e)) l.entries) c.self.view_is
    (sym (nothing_left_out (parts c.self.inside.chain.blocks.items) c.args.holder.now c.in-None.ensures.none))

pub returns-in-Some-clause-taken : goal.returns-in-Some-clause-taken
returns-in-Some-clause-taken c =
    subst (λ (l : Line). c.remove_at-entry.result ≡ find (is_held_as c.args.holder.now) l.entries) c.self.view_is
    (c.remove_at-entry.ensures.taken ∙ sym (joined_found (is_held_as c.args.holder.now) (parts c.self.inside.chain.blocks.items) c.in-Some.field-0.block (held_first (parts c.self.inside.chain.blocks.items) c.self.inside.ready_count c.self.inside.live c.self.inside.ready_bytes c.in-Some.field-0.block c.args.holder.now c.self.invariant.1 c.in-Some.ensures.some)))

pub returns-in-Some-clause-entries : goal.returns-in-Some-clause-entries
returns-in-Some-clause-entries c =
    subst (λ (l : Line). joined (parts c.give_back_spare.new.blocks.items) ≡ filter (λ e. not (is_held_as c.args.holder.now e)) l.entries) c.self.view_is
    (ap (λ (ps : List (List Entry)). joined ps) c.give_back_spare.ensures.parts ∙ c.settle.ensures.entries ∙ ap (λ (ps : List (List Entry)). joined ps) c.remove_at-entry.ensures.parts ∙ sym (left_out_is (parts c.self.inside.chain.blocks.items) c.self.inside.ready_count c.self.inside.live c.self.inside.ready_bytes c.in-Some.field-0.block c.args.holder.now c.self.invariant.1 c.in-Some.ensures.some))
