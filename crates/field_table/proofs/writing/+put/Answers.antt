-- What was put and what is left is the whole; a name is put before its value.
use Rattle.field_table.proofs.Names.{◌≡◌, ◌∷◌, subst, ap, length, arith, rules, Values, AreValues, ArePairs, letter, content, values_bytes, field_view, entry_view, the_lemmas}
use Rattle.std.proofs.Common.{length-append}
use Rattle.field_table.proofs.Views.{named}
use Rattle.field_table.proofs.Puts.{value_left, pair_left, value_put, pair_put, pair_len, entry_put}
use Rattle.field_table.proofs.writing.+put.Goals as goal

pub put_values-values-preserved : goal.put_values-values-preserved
put_values-values-preserved t c =
    let l = c.values in
    let left = value_left c.args.values.now l.value-index c.value-item.result c.values-test.true c.value-item.is in
    let v = field_view c.value-item.result in
    record {
      fits = (subst (AreValues c.args.depth) left l.invariant.fits).1;
      items = value_put l.out.items _ _ v _ _ left c.put_field.ensures.items l.invariant.items;
      len = omega (arith, c.put_field.ensures.len, l.invariant.len, ap (λ (vs : Values). length (values_bytes vs)) left, length-append (letter v ∷ content v));
      capacity = omega (arith, c.put_field.ensures.capacity, l.invariant.capacity);
    }

pub put_pairs-pairs-preserved : goal.put_pairs-pairs-preserved
put_pairs-pairs-preserved t c =
    let l = c.pairs in
    let left = pair_left c.args.entries.now l.entry-index c.entry-item.result c.pairs-test.true c.entry-item.is in
    let x = entry_view c.entry-item.result in
    record {
      fits = (subst (ArePairs c.args.depth) left l.invariant.fits).2;
      items = pair_put l.out.items _ _ x _ _ left c.put_entry.ensures.items l.invariant.items;
      len = omega (arith, c.put_entry.ensures.len, l.invariant.len, pair_len x _ _ left);
      capacity = omega (arith, c.put_entry.ensures.capacity, l.invariant.capacity);
    }

pub put_entry-returns-clause-items : goal.put_entry-returns-clause-items
put_entry-returns-clause-items t c =
    let x = c.args.entry.now in
    let is : entry_view x ≡ named x.name (field_view x.value) = search (rules, the_lemmas) in
    entry_put c.args.out.now.items c.put_bytes.new.out.items c.put_bytes-2.new.out.items c.put_field.new.out.items c.as_bytes.result.now x.name c.len.result (field_view x.value) (entry_view x)
    is c.len.ensures c.as_bytes.ensures c.put_bytes.ensures.items c.put_bytes-2.ensures.items c.put_field.ensures.items
