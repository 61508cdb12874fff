use Rattle.queue.proofs.Names.{◌≡◌, ◌∙◌, ◌<◌, ◌+◌, ◌-◌, ◌∷◌, ◌++◌, [], ℕ, sym, ap, refl, subst, arith, rules, length, get_or, List, Bool, vec_len, Ready, Entry, Line, num, BitTurned, parts, joined, AreBlocksSigned, IsCounted, is_ready, some_pass}
use Rattle.model.specs.declared.contents.Content.{Content}
use Rattle.queue.proofs.Filled.{bounded}
use Rattle.queue.proofs.Room.{room_spent, kept_still}
use Rattle.queue.proofs.Joined.{joined_end}
use Rattle.queue.proofs.Signed.{ready_at_end, parts-length}
use Rattle.queue.proofs.Slotted.{same_places, set_turned}
use Rattle.queue.proofs.Counts.{counts_most, push_counted}
use Rattle.queue.proofs.indexed.IndexedStore.push.Goals as goal

pub overflow_add-self : goal.overflow_add-self
overflow_add-self c =
    let a = (counts_most (joined (parts c.self.inside.chain.blocks.items)) c.self.inside.ready_count c.self.inside.live c.self.inside.ready_bytes c.self.invariant.1).0 in
    let r : 0 < c.self.inside.room = subst (λ (l : Line). 0 < l.room) (sym c.self.view_is) c.requires in let f = c.self.invariant.3.fits in
    omega (arith, a, r, f)

pub overflow_add-self-2 : goal.overflow_add-self-2
overflow_add-self-2 c =
    let r : 0 < c.self.inside.room = subst (λ (l : Line). 0 < l.room) (sym c.self.view_is) c.requires in let f = c.self.invariant.3.fits in
    let most = (counts_most (joined (parts c.self.inside.chain.blocks.items)) c.self.inside.ready_count c.self.inside.live c.self.inside.ready_bytes c.self.invariant.1).1 in
    omega (arith, most)

pub overflow_add-self-3 : goal.overflow_add-self-3
overflow_add-self-3 c =
    let r : 0 < c.self.inside.room = subst (λ (l : Line). 0 < l.room) (sym c.self.view_is) c.requires in let f = c.self.invariant.3.fits in
    omega (arith, r, f)

pub open_spare-requires-clause-room : goal.open_spare-requires-clause-room
open_spare-requires-clause-room c =
    let r : 0 < c.self.inside.room = subst (λ (l : Line). 0 < l.room) (sym c.self.view_is) c.requires in
    let t = c.self.invariant.2.there in
    omega (arith, r, t)

pub open_spare-requires-clause-distinct : goal.open_spare-requires-clause-distinct
open_spare-requires-clause-distinct c = c.self.invariant.1.distinct

pub set_ready-requires : goal.set_ready-requires
set_ready-requires c = let p = c.push_last-place.ensures.place in let u = c.open_spare.ensures.kept.marked.places.used in omega (arith, p, u)

pub invariant_of-self : goal.invariant_of-self
invariant_of-self c =
    let bs = c.open_spare.new.self.blocks in
    let bits = c.open_spare.new.self.signs in
    let some : 0 < c.self.inside.room = subst (λ (l : Line). 0 < l.room) (sym c.self.view_is) c.requires in
    let size : c.len.result ≡ length c.args.message.content.body = c.len.ensures ∙ ap (λ (x : Content). length x.body) c.content.ensures in
    let p = c.push_last-place.ensures.place in
    let n = parts-length bs.items in
    let l : vec_len bs ≡ length bs.items = search rules in
    let last : c.push_last-place.result + 1 ≡ length (parts bs.items) = omega arith in
    let counted = subst (λ (es : List Entry). IsCounted es c.self.inside.ready_count c.self.inside.live c.self.inside.ready_bytes) (sym c.open_spare.ensures.entries) c.self.invariant.1 in
    let has = room_spent c.self.inside.room c.self.inside.chain.blocks.items c.push_last-place.new.blocks.items (vec_len c.self.inside.chain.spares) (vec_len c.open_spare.new.self.spares) some
    (let s = c.open_spare.ensures.sum in let r = c.push_last-place.ensures.room in omega (arith, s, r)) c.open_spare.ensures.few c.push_last-place.ensures.short c.self.invariant.2 in (
      kept_still bs c.push_last-place.new.blocks bits c.set_ready.new.self c.open_spare.new.self.spares (record {
        signed = subst (λ (ps : List (List Entry)). AreBlocksSigned ps c.set_ready.new.self) (sym c.push_last-place.ensures.parts)
            (set_turned (some_pass is_ready) [] (parts bs.items) _ bits c.set_ready.new.self c.push_last-place.result (omega arith) c.open_spare.ensures.kept.marked.signed (subst (λ (b : Bool). BitTurned bits c.set_ready.new.self c.push_last-place.result (num b)) (sym (ready_at_end (get_or (parts bs.items) c.push_last-place.result []) c.args.message)) c.set_ready.ensures));
        places = same_places _ _ _ _ _ _ c.open_spare.ensures.kept.marked.places c.push_last-place.ensures.size.0 c.push_last-place.ensures.size.1 c.set_ready.ensures.places;
      }) (let m = c.push_last-place.ensures.size.0 in omega (arith, m)) c.set_ready.ensures.places c.open_spare.ensures.kept,
      subst (λ (es : List Entry). IsCounted es (c.self.inside.ready_count + 1) (c.self.inside.live + 1) (c.self.inside.ready_bytes + c.len.result)) (sym (ap (λ (ps : List (List Entry)). joined ps) c.push_last-place.ensures.parts ∙ joined_end (parts bs.items) c.push_last-place.result (record { message = c.args.message; mark = Ready } ∷ []) last))
          (push_counted _ _ _ _ _ _ _ c.args.message counted (omega (arith, size)) refl refl (ap (λ (k : ℕ). c.self.inside.ready_bytes + k) size)),
      has,
      bounded (c.self.inside.room - 1) (c.self.inside.live + 1) c.push_last-place.new.blocks.items c.open_spare.new.self.spares (c.push_last-place.ensures.filled 1024 (c.open_spare.ensures.filled c.self.invariant.3.filled)) c.open_spare.ensures.kept.whole has
          (let f = c.self.invariant.3.fits in omega (arith, f, some)),
    )

pub returns-clause-entries : goal.returns-clause-entries
returns-clause-entries c =
    let bs = c.open_spare.new.self.blocks in
    let p = c.push_last-place.ensures.place in
    let n = parts-length bs.items in
    let l : vec_len bs ≡ length bs.items = search rules in
    let last : c.push_last-place.result + 1 ≡ length (parts bs.items) = omega arith in
    subst (λ (l : Line). joined (parts c.push_last-place.new.blocks.items) ≡ l.entries ++ record { message = c.args.message; mark = Ready } ∷ []) c.self.view_is
    (ap (λ (ps : List (List Entry)). joined ps) c.push_last-place.ensures.parts ∙ joined_end (parts bs.items) c.push_last-place.result (record { message = c.args.message; mark = Ready } ∷ []) last
    ∙ ap (λ (es : List Entry). es ++ record { message = c.args.message; mark = Ready } ∷ []) c.open_spare.ensures.entries)

pub overflow_sub-self : goal.overflow_sub-self
overflow_sub-self c = subst (λ (l : Line). 0 < l.room) (sym c.self.view_is) c.requires
