use Rattle.std.proofs.Common.{◌≡◌, ◌*◌, List, vec_len, length, ap, arith, rules}
use Rattle.marks.specs.Sets.{bit_of}
use Rattle.waiting_lines.specs.Order.{Queue}
use Rattle.waiting_lines.proofs.Standing.{err_of, on_err, on_ok, order_length}
use Rattle.waiting_lines.proofs.line.Line.reserve.Goals as goal

pub returns-in_err-grow-clause-full : goal.returns-in_err-grow-clause-full
returns-in_err-grow-clause-full g c =
    let items = c.self.inside.items.items in
    let bits = length c.self.inside.awake * 64 in
    let seen = ap (λ (q : Queue g.row.T.Denot). length q.order) c.self.view_is in
    let most = ap (λ (q : Queue g.row.T.Denot). q.capacity) c.self.view_is in
    let long = order_length c.self.inside.next (bit_of c.self.inside.awake) items in
    let vec : vec_len c.self.inside.items ≡ length items = search rules in
    let count : c.len.result ≡ length items = search rules in
    let few = c.in_err-grow.ensures.full in
    err_of c.from_residual.result (omega (arith, seen, most, long, count, few))

pub returns-clause-room : goal.returns-clause-room
returns-clause-room g c =
    let items = c.self.inside.items.items in
    let bits = length c.self.inside.awake * 64 in
    let seen = ap (λ (q : Queue g.row.T.Denot). length q.order) c.self.view_is in
    let most = ap (λ (q : Queue g.row.T.Denot). q.capacity) c.self.view_is in
    let long = order_length c.self.inside.next (bit_of c.self.inside.awake) items in
    let vec : vec_len c.self.inside.items ≡ length items = search rules in
    let count : c.len.result ≡ length items = search rules in
    let same = c.reserve.ensures.items in
    let len = c.reserve.ensures.len in
    let more = order_length c.self.inside.next (bit_of c.grow.new.self) c.reserve.new.self.items in
    let as' = ap (λ (xs : List g.row.T.Denot). length xs) same in
    let words = c.in_ok-grow.ensures.room in
    on_ok c.reserve.result (λ room. omega (arith, room, more, as', words, count, len, vec)) c.reserve.ensures.ok

pub returns-clause-full : goal.returns-clause-full
returns-clause-full g c =
    let items = c.self.inside.items.items in
    let bits = length c.self.inside.awake * 64 in
    let seen = ap (λ (q : Queue g.row.T.Denot). length q.order) c.self.view_is in
    let most = ap (λ (q : Queue g.row.T.Denot). q.capacity) c.self.view_is in
    let long = order_length c.self.inside.next (bit_of c.self.inside.awake) items in
    let vec : vec_len c.self.inside.items ≡ length items = search rules in
    let count : c.len.result ≡ length items = search rules in
    on_err c.reserve.result (λ few. omega (arith, few, seen, most, long, vec)) c.reserve.ensures.full
