use Rattle.field_table.proofs.Names.{◌≡◌, Some, sym, arith, Long_text, argument_at, a_long_text}
use Rattle.field_table.proofs.Firsts.{is_nil}
use Rattle.field_table.proofs.Views.{table_read, only_table}
use Rattle.field_table.proofs.reading.read_table.Goals as goal

pub returns-clause-read : goal.returns-clause-read
returns-clause-read c =
    let e : argument_at a_long_text c.args.bytes.now ≡ Some (Long_text c.in_ok-pairs.pairs.now, c.in_ok-pairs.rest.now) = grind arith in
    table_read c.args.bytes.now c.in_ok-pairs.pairs.now c.in_ok-pairs.rest.now c.table_in.result (λ i. (c.type_inv.bytes i).fits) e (is_nil c.in_ok-pairs.rest.now (sym c.if-not-is_empty.ensures)) c.table_in.ensures

pub returns-clause-only : goal.returns-clause-only
returns-clause-only c =
    let e : argument_at a_long_text c.args.bytes.now ≡ Some (Long_text c.in_ok-pairs.pairs.now, c.in_ok-pairs.rest.now) = grind arith in
    only_table c.args.bytes.now c.table_in.result
    (table_read c.args.bytes.now c.in_ok-pairs.pairs.now c.in_ok-pairs.rest.now c.table_in.result (λ i. (c.type_inv.bytes i).fits) e (is_nil c.in_ok-pairs.rest.now (sym c.if-not-is_empty.ensures)) c.table_in.ensures)
