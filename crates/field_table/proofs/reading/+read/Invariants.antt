use Rattle.field_table.proofs.Names.{◌+◌, ◌*◌, length, SpellsValues, SpellsPairs, HasValues, HasPairs, fields_view, entries_view, values_then, pairs_then}
use Rattle.field_table.proofs.Loops.{IsReadSoFar}
use Rattle.field_table.proofs.reading.+read.Given as goal

abbrev pub decreases-field_of : goal.decreases-field_of
decreases-field_of l = 4 * l.depth

abbrev pub decreases-field_at : goal.decreases-field_at
decreases-field_at l = 4 * l.depth + 1

abbrev pub decreases-entry_at : goal.decreases-entry_at
decreases-entry_at l = 4 * l.depth + 2

abbrev pub decreases-values_in : goal.decreases-values_in
decreases-values_in l = 4 * l.depth + 3

abbrev pub decreases-table_in : goal.decreases-table_in
decreases-table_in l = 4 * l.depth + 3

abbrev pub invariant-values_in-values : goal.invariant-values_in-values
invariant-values_in-values l = IsReadSoFar (SpellsValues l.depth) (HasValues l.depth) (values_then (fields_view l.values.items)) l.rest l.bytes

abbrev pub decreases-values_in-values : goal.decreases-values_in-values
decreases-values_in-values l = length l.rest

abbrev pub invariant-table_in-pairs : goal.invariant-table_in-pairs
invariant-table_in-pairs l = IsReadSoFar (SpellsPairs l.depth) (HasPairs l.depth) (pairs_then (entries_view l.entries.items)) l.rest l.bytes

abbrev pub decreases-table_in-pairs : goal.decreases-table_in-pairs
decreases-table_in-pairs l = length l.rest
