use Rattle.std.proofs.Common.{◌≡◌, ◌∙◌, ℕ, length, ap, sym, subst, arith, rules}
use Rattle.marks.specs.Sets.{bit_of}
use Rattle.waiting_lines.specs.Order.{IsPlace, Queue}
use Rattle.waiting_lines.proofs.Standing.{item_is, order_length}
use Rattle.waiting_lines.proofs.line.Line.item_at.Goals as goal

pub place_of-requires-clause-within : goal.place_of-requires-clause-within
place_of-requires-clause-within g c =
    let seen = ap (λ (q : Queue g.row.T.Denot). length q.order) c.self.view_is in
    let long = order_length c.self.inside.next (bit_of c.self.inside.awake) c.self.inside.items.items in
    let count : c.len.result ≡ length c.self.inside.items.items = search rules in
    let fits = c.requires in
    omega (arith, seen, long, count, fits)

pub returns : goal.returns
returns g c = λ m front back at.
    let items = c.self.inside.items.items in
    let was = sym (ap (λ (q : Queue g.row.T.Denot). q.order) c.self.view_is) in
    let seen = ap (λ (q : Queue g.row.T.Denot). length q.order) c.self.view_is in
    let long = order_length c.self.inside.next (bit_of c.self.inside.awake) items in
    let count : c.len.result ≡ length items = search rules in
    let fits = c.requires in
    let within = c.place_of.ensures.within in
    let here = subst (λ (n : ℕ). IsPlace c.self.inside.next n c.args.i c.place_of.result) count c.place_of.ensures.place in
    c.index.ensures ∙ item_is c.self.inside.next (bit_of c.self.inside.awake) items c.args.self.now.order was c.self.invariant.begins c.args.i c.place_of.result (omega (arith, within, count))
    (omega (arith, fits, seen, long)) here m front back at c.index.result.now
