use Rattle.std.proofs.Common.{◌≡◌, length, ap, arith, rules}
use Rattle.marks.specs.Sets.{bit_of}
use Rattle.waiting_lines.specs.Order.{Queue}
use Rattle.waiting_lines.proofs.Standing.{order_length}
use Rattle.waiting_lines.proofs.line.Line.len.Goals as goal

pub returns : goal.returns
returns g c =
    let seen = ap (λ (q : Queue g.row.T.Denot). length q.order) c.self.view_is in
    let long = order_length c.self.inside.next (bit_of c.self.inside.awake) c.self.inside.items.items in
    let count : c.len.result ≡ length c.self.inside.items.items = search rules in
    omega (arith, seen, long, count)
