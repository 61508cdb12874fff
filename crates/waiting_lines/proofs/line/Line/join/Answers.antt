use Rattle.std.proofs.Common.{◌≡◌, ◌⊎◌, ◌∙◌, ◌*◌, ◌+◌, ◌++◌, ◌∷◌, [], ℕ, List, true, min, vec_len, length, ap, subst, arith, rules}
use Rattle.marks.specs.Sets.{bit_of}
use Rattle.waiting_lines.specs.Order.{Queue, order_from}
use Rattle.std.specs.Prelude.{insert, vec_capacity}
use Rattle.std.proofs.lemmas.List.Edits.{length-insert}
use Rattle.waiting_lines.proofs.Standing.{if_ok, joined, one_more, order_length, past_words}
use Rattle.waiting_lines.proofs.line.Line.join.Goals as goal

pub insert-requires-2 : goal.insert-requires-2
insert-requires-2 g c =
    let items = c.self.inside.items.items in
    let bits = length c.self.inside.awake * 64 in
    let seen = ap (λ (q : Queue g.row.T.Denot). length q.order) c.self.view_is in
    let most = ap (λ (q : Queue g.row.T.Denot). q.capacity) c.self.view_is in
    let long = order_length c.self.inside.next (bit_of c.self.inside.awake) items in
    let vec : vec_len c.self.inside.items ≡ length items = search rules in
    let count : c.len.result ≡ length items = search rules in
    let fits = c.requires in
    let within = c.last_place-place.ensures.within in
    omega (arith, seen, most, long, count, fits, within)

pub invariant_of-self : goal.invariant_of-self
invariant_of-self g c =
    let items = c.self.inside.items.items in
    let bits = length c.self.inside.awake * 64 in
    let seen = ap (λ (q : Queue g.row.T.Denot). length q.order) c.self.view_is in
    let most = ap (λ (q : Queue g.row.T.Denot). q.capacity) c.self.view_is in
    let long = order_length c.self.inside.next (bit_of c.self.inside.awake) items in
    let vec : vec_len c.self.inside.items ≡ length items = search rules in
    let count : c.len.result ≡ length items = search rules in
    let place = c.last_place-place.result in
    let fits = c.requires in
    let within = c.last_place-place.ensures.within in
    let new = if_ok c.insert.result items (insert items place c.args.item) c.insert.new.self.items c.insert.ensures.items (c.insert.ensures.succeeds (omega (arith, vec, fits, seen, most, long))) in
    let more = ap (λ (xs : List g.row.T.Denot). length xs) new in
    let len = length-insert items place c.args.item in
    let words = c.insert-2.ensures.len in
    record {
      begins = omega (arith, more, len, within, count);
      room = omega (arith, more, len, within, count, words, seen, most, long, fits);
      past = λ k le. one_more (length items) place bits (bit_of c.self.inside.awake) (bit_of c.insert-2.new.self) (omega (arith, within, count)) c.self.invariant.past
          (λ j ge. past_words c.insert-2.new.self j (omega (arith, ge, words))) c.insert-2.ensures.inserted k (omega (arith, le, more, len, within, count));
    }

pub returns : goal.returns
returns g c =
    let items = c.self.inside.items.items in
    let bits = length c.self.inside.awake * 64 in
    let seen = ap (λ (q : Queue g.row.T.Denot). length q.order) c.self.view_is in
    let most = ap (λ (q : Queue g.row.T.Denot). q.capacity) c.self.view_is in
    let long = order_length c.self.inside.next (bit_of c.self.inside.awake) items in
    let vec : vec_len c.self.inside.items ≡ length items = search rules in
    let count : c.len.result ≡ length items = search rules in
    let place = c.last_place-place.result in
    let fits = c.requires in
    let within = c.last_place-place.ensures.within in
    let now = bit_of c.insert-2.new.self in
    let new = if_ok c.insert.result items (insert items place c.args.item) c.insert.new.self.items c.insert.ensures.items (c.insert.ensures.succeeds (omega (arith, vec, fits, seen, most, long))) in
    let end = subst (λ (n : ℕ). ((c.self.inside.next ≡ 0) × (place ≡ n)) ⊎ (place ≡ c.self.inside.next)) count c.last_place-place.ensures.end in
    let order : order_from (place + 1) now c.insert.new.self.items ≡ c.args.self.now.order ++ record { item = c.args.item; awake = true } ∷ [] =
    ap (order_from (place + 1) now) new
    ∙ joined c.self.inside.next place bits (bit_of c.self.inside.awake) now items c.args.item c.self.invariant.begins (omega (arith, within, count)) (omega (arith, fits, seen, most, long))
    end c.insert-2.ensures.inserted
    ∙ ap (λ (q : Queue g.row.T.Denot). q.order ++ record { item = c.args.item; awake = true } ∷ []) c.self.view_is in
    let words = c.insert-2.ensures.len in
    let block = c.insert.ensures.in_place (omega (arith, vec, fits, seen, most, long)) in
    let room : vec_capacity c.insert.new.self ≡ vec_capacity c.self.inside.items = search rules in
    let capacity : min (vec_capacity c.insert.new.self) (length c.insert-2.new.self * 64) ≡ c.args.self.now.capacity = cc (words, room, most) in
    cc (order, capacity)
