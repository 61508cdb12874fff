use Rattle.std.proofs.Common.{◌≡◌, length, ap, sym, rules}
use Rattle.marks.specs.Sets.{bit_of}
use Rattle.waiting_lines.specs.Order.{Queue}
use Rattle.waiting_lines.proofs.Standing.{if_next, if_none}
use Rattle.waiting_lines.proofs.line.Line.next_awake.Goals as goal

pub returns-clause-some : goal.returns-clause-some
returns-clause-some g c =
    let items = c.self.inside.items.items in
    let was = sym (ap (λ (q : Queue g.row.T.Denot). q.order) c.self.view_is) in
    let count : c.len.result ≡ length items = search rules in
    let found = c.next_awake.ensures in
    if_next c.self.inside.next (bit_of c.self.inside.awake) items c.args.self.now.order was c.self.invariant.begins c.args.from c.len.result count
    c.next_awake.result found.within found.least found.there found.before

pub returns-clause-none : goal.returns-clause-none
returns-clause-none g c =
    let items = c.self.inside.items.items in
    let was = sym (ap (λ (q : Queue g.row.T.Denot). q.order) c.self.view_is) in
    let count : c.len.result ≡ length items = search rules in
    if_none c.self.inside.next (bit_of c.self.inside.awake) items c.args.self.now.order was c.self.invariant.begins c.args.from c.len.result count
    c.next_awake.result c.next_awake.ensures.none
