use Rattle.field_table.proofs.Names.{sym}
use Rattle.field_table.proofs.Firsts.{is_nil, not_nil}
use Rattle.field_table.proofs.Found.{seen_next, seen_end, seen_bad}
use Rattle.field_table.proofs.lookups.has_field.Goals as goal

pub pairs-preserved : goal.pairs-preserved
pairs-preserved c =
    let f = c.in-Some.ensures in
    rw (c.eq-is_found.ensures)
    (seen_next c.pairs.is_found c.args.name.now c.args.pairs.now c.pairs.rest.now c.in-Some.other.now c.in-Some.after.now f.0 f.1 c.pairs.invariant)

pub returns-in_default : goal.returns-in_default
returns-in_default c = seen_bad c.pairs.is_found c.args.name.now c.args.pairs.now c.pairs.rest.now c.in_default.ensures (not_nil c.pairs.rest.now (sym c.pairs-test.ensures)) c.pairs.invariant

pub returns : goal.returns
returns c = seen_end c.pairs.is_found c.args.name.now c.args.pairs.now c.pairs.rest.now (is_nil c.pairs.rest.now (sym c.pairs-test.ensures)) c.if-pairs-ge4294967296.false c.pairs.invariant
