-- What is left is values or pairs where the whole is, and the whole is what was read and what is left.
use Rattle.field_table.proofs.Names.{◌≡◌, sym, rules, no_pairs, value, pair, field_view, entry_view, table_view, entries_view, pairs_then, the_lemmas, roll-FieldTable}
use Rattle.std.proofs.lemmas.Result.{err_from_is_err_and}
use Rattle.field_table.proofs.Firsts.{first_is, unsound, values_back, no_values_left, pairs_back, no_pairs_left, is_nil, not_nil}
use Rattle.field_table.proofs.Views.{named, one_more_value, one_more_pair, then_values, then_pairs, refused_so}
use Rattle.field_table.proofs.reading.+read.Goals as goal

pub field_at-returns-in-Ok : goal.field_at-returns-in-Ok
field_at-returns-in-Ok t c =
    first_is c.args.depth c.args.bytes.now c.in-Some.rest.now c.in-Some.leaf _ (λ i. (c.type_inv.bytes i).fits) (sym c.in-Some.ensures) c.in-Ok.ensures

pub field_at-returns-in-Err : goal.field_at-returns-in-Err
field_at-returns-in-Err t c =
    refused_so c.in-Err.why _ _ (unsound c.args.depth c.args.bytes.now c.in-Some.rest.now c.in-Some.leaf (sym c.in-Some.ensures)) c.in-Err.ensures

pub values_in-returns-in_err-value : goal.values_in-returns-in_err-value
values_in-returns-in_err-value t c =
    let p = err_from_is_err_and c.from_residual.result c.from_residual.ensures.1 in
    let l = c.values in
    rw (p.1, p.2) (refused_so c.in_err-value.field-0.0 _ _ (λ none h. no_values_left c.args.depth l.rest.now none (not_nil l.rest.now (sym c.values-test.ensures)) (l.invariant.back h)) c.in_err-value.ensures)

pub values_in-values-preserved : goal.values_in-values-preserved
values_in-values-preserved t c =
    let l = c.values in
    let v = field_view c.in_ok-value.value in
    let f = c.in_ok-value.ensures in
    let after = c.in_ok-value.after.now in
    record {
      onto = λ vs s. rw (c.in_ok-push.ensures.items, one_more_value l.values.items c.in_ok-value.value vs) (l.invariant.onto (value v vs) (then_values c.args.depth l.rest.now v after vs f s));
      back = λ h. values_back c.args.depth l.rest.now v after f (l.invariant.back h);
    }

pub table_in-returns : goal.table_in-returns
table_in-returns t c =
    let l = c.pairs in
    let nil = is_nil l.rest.now (sym c.pairs-test.ensures) in
    let is : table_view (roll-FieldTable (record { entries = l.entries })) ≡ pairs_then (entries_view l.entries.items) no_pairs = search (rules, the_lemmas) in
    rw is (l.invariant.onto no_pairs (record { fits = tt; parts = nil }))

pub table_in-returns-in_err-entry : goal.table_in-returns-in_err-entry
table_in-returns-in_err-entry t c =
    let p = err_from_is_err_and c.from_residual.result c.from_residual.ensures.1 in
    let l = c.pairs in
    rw (p.1, p.2) (refused_so c.in_err-entry.field-0.0 _ _ (λ none h. no_pairs_left c.args.depth l.rest.now none (not_nil l.rest.now (sym c.pairs-test.ensures)) (l.invariant.back h)) c.in_err-entry.ensures)

pub table_in-pairs-preserved : goal.table_in-pairs-preserved
table_in-pairs-preserved t c =
    let l = c.pairs in
    let x = c.in_ok-entry.entry in
    let v = field_view x.value in
    let f = c.in_ok-entry.ensures in
    let after = c.in_ok-entry.after.now in
    let is : entry_view x ≡ named x.name v = search (rules, the_lemmas) in
    record {
      onto = λ ps s. rw (c.in_ok-push.ensures.items, one_more_pair l.entries.items x x.name v ps is) (l.invariant.onto (pair x.name v ps) (then_pairs c.args.depth l.rest.now x.name v after ps f s));
      back = λ h. pairs_back c.args.depth l.rest.now x.name v after f (l.invariant.back h);
    }
