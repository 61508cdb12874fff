use Rattle.depot.proofs.Names.{◌≡◌, ◌∙◌, Bool, ap, arith, cond, bit_of, entries_of, ready_places}
use Rattle.depot.proofs.Signing.{lent_bit, none_before, next_behind, next_past}
use Rattle.depot.proofs.queues.next_in.Goals as goal

pub returns-then-place-lent-2 : goal.returns-then-place-lent-2
returns-then-place-lent-2 c =
    let lent = c.args.lent in
    let lines = c.args.queues.now in
    let bits = bit_of c.args.signs.now in
    let here = c.if-lent-from.false in
    let there = c.if-lent-queues.false in
    let behind = c.if-place-lent.false in
    let not : ready_places (entries_of lines) lent ≡ 0 =
    lent_bit lines lent c.index-queues-lent.result c.has_ready-is_ready.result (omega (arith, there)) c.index-queues-lent.is c.has_ready-is_ready.ensures ∙ ap (λ (b : Bool). cond b 1 0) c.if-is_ready-2.false in
    next_past lent c.args.from bits (ready_places (entries_of lines)) c.next_ready.result c.requires.ready (omega (arith, here)) not
    (none_before lent c.args.from c.in-Some.place bits (omega (arith, behind)) c.in-Some.ensures) c.next_ready.ensures

pub returns : goal.returns
returns c =
    let lent = c.args.lent in
    let lines = c.args.queues.now in
    let there = c.if-lent-queues.false in
    let behind = c.if-place-lent.false in
    let other = c.if-place-lent-2.false in
    let not : ready_places (entries_of lines) lent ≡ 0 =
    lent_bit lines lent c.index-queues-lent.result c.has_ready-is_ready.result (omega (arith, there)) c.index-queues-lent.is c.has_ready-is_ready.ensures ∙ ap (λ (b : Bool). cond b 1 0) c.if-is_ready-2.false in
    next_behind lent c.args.from c.in-Some.place (bit_of c.args.signs.now) (ready_places (entries_of lines)) c.requires.ready (omega (arith, behind, other)) not c.in-Some.ensures
