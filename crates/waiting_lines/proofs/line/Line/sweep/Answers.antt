use Rattle.std.proofs.Common.{◌≡◌, ◌∙◌, List, take, filter, count_by, length, ap, arith, rules}
use Rattle.std.proofs.lemmas.List.Sums.{count_by-le-length, length-filter}
use Rattle.marks.specs.Sets.{bit_of}
use Rattle.waiting_lines.specs.Order.{Queue, all_awake, items_of}
use Rattle.waiting_lines.proofs.Swept.{fewer_stay, swept}
use Rattle.waiting_lines.proofs.line.Line.sweep.Goals as goal

pub set_left-requires-clause-order : goal.set_left-requires-clause-order
set_left-requires-clause-order g c =
    let items = c.self.inside.items.items in
    let keep = g.K.Tests.passes c.args.keeper.now in
    let was : c.len-count.result ≡ length items = search rules in
    let is : c.len.result ≡ length c.retain.new.items.items = search rules in
    let left = ap (λ (xs : List g.row.T.Denot). length xs) c.retain.ensures.items in
    let size = length-filter keep items in
    let most = count_by-le-length keep items in
    omega (arith, was, is, left, size, most)

pub invariant_of-self : goal.invariant_of-self
invariant_of-self g c =
    let items = c.self.inside.items.items in
    let keep = g.K.Tests.passes c.args.keeper.now in
    let was : c.len-count.result ≡ length items = search rules in
    let is : c.len.result ≡ length c.retain.new.items.items = search rules in
    let left = ap (λ (xs : List g.row.T.Denot). length xs) c.retain.ensures.items in
    let size = length-filter keep items in
    let most = count_by-le-length keep items in
    let words = c.set_left.ensures.len in
    let room = c.self.invariant.room in
    let front : c.count_kept-front.result ≡ count_by keep (take c.self.inside.next items) =
    c.count_kept-front.ensures ∙ ap (count_by keep) (c.split_at.ensures.front ∙ ap (take c.self.inside.next) c.deref.ensures.value) in
    let fewer = fewer_stay keep c.self.inside.next items in
    record {
      begins = omega (arith, front, fewer, left);
      room = omega (arith, left, size, most, words, room);
      past = λ k le. c.set_left.ensures.past k (omega (arith, le, is));
    }

pub returns-clause-order : goal.returns-clause-order
returns-clause-order g c =
    let items = c.self.inside.items.items in
    let keep = g.K.Tests.passes c.args.keeper.now in
    let is : c.len.result ≡ length c.retain.new.items.items = search rules in
    let front : c.count_kept-front.result ≡ count_by keep (take c.self.inside.next items) =
    c.count_kept-front.ensures ∙ ap (count_by keep) (c.split_at.ensures.front ∙ ap (take c.self.inside.next) c.deref.ensures.value) in
    swept keep c.self.inside.next c.count_kept-front.result (bit_of c.self.inside.awake) (bit_of c.set_left.new.marks) items c.retain.new.items.items c.self.invariant.begins c.retain.ensures.items front
    (λ k lt. c.set_left.ensures.up k (omega (arith, lt, is))) ∙ ap (λ (q : Queue g.row.T.Denot). all_awake (filter keep (items_of q.order))) c.self.view_is
