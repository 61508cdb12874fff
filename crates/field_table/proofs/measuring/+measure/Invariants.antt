use Rattle.field_table.proofs.Names.{◌+◌, ◌*◌, drop, values_bytes, pairs_bytes, AreValues, ArePairs, array_view, pairs_view}
use Rattle.field_table.proofs.Loops.{IsMeasuredSoFar}
use Rattle.field_table.proofs.measuring.+measure.Given as goal

abbrev pub decreases-field_len : goal.decreases-field_len
decreases-field_len l = 4 * l.depth + 1

abbrev pub decreases-entry_len : goal.decreases-entry_len
decreases-entry_len l = 4 * l.depth + 2

abbrev pub decreases-values_len : goal.decreases-values_len
decreases-values_len l = 4 * l.depth + 3

abbrev pub decreases-pairs_len : goal.decreases-pairs_len
decreases-pairs_len l = 4 * l.depth + 3

abbrev pub invariant-values_len-values : goal.invariant-values_len-values
invariant-values_len-values l = IsMeasuredSoFar values_bytes (AreValues l.depth) l.len (array_view (drop l.value-index l.values)) (array_view l.values)

abbrev pub invariant-pairs_len-pairs : goal.invariant-pairs_len-pairs
invariant-pairs_len-pairs l = IsMeasuredSoFar pairs_bytes (ArePairs l.depth) l.len (pairs_view (drop l.entry-index l.entries)) (pairs_view l.entries)
