use Rattle.field_table.proofs.Names.{◌+◌, ◌*◌, drop, values_bytes, pairs_bytes, AreValues, ArePairs, array_view, pairs_view}
use Rattle.field_table.proofs.Loops.{IsPutSoFar}
use Rattle.field_table.proofs.writing.+put.Given as goal

abbrev pub decreases-put_field : goal.decreases-put_field
decreases-put_field l = 4 * l.depth + 1

abbrev pub decreases-put_entry : goal.decreases-put_entry
decreases-put_entry l = 4 * l.depth + 2

abbrev pub decreases-put_values : goal.decreases-put_values
decreases-put_values l = 4 * l.depth + 3

abbrev pub decreases-put_pairs : goal.decreases-put_pairs
decreases-put_pairs l = 4 * l.depth + 3

abbrev pub invariant-put_values-values : goal.invariant-put_values-values
invariant-put_values-values l = IsPutSoFar values_bytes (AreValues l.depth) l.fn.out l.out (array_view (drop l.value-index l.values)) (array_view l.values)

abbrev pub invariant-put_pairs-pairs : goal.invariant-put_pairs-pairs
invariant-put_pairs-pairs l = IsPutSoFar pairs_bytes (ArePairs l.depth) l.fn.out l.out (pairs_view (drop l.entry-index l.entries)) (pairs_view l.entries)
