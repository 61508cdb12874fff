use Rattle.field_table.proofs.Names.{◌+◌, ◌*◌, ◌↔◌, length, HasValues, HasPairs}
use Rattle.field_table.proofs.checking.+check.Given as goal

abbrev pub decreases-is_sound : goal.decreases-is_sound
decreases-is_sound l = 4 * l.depth

abbrev pub decreases-value_end : goal.decreases-value_end
decreases-value_end l = 4 * l.depth + 1

abbrev pub decreases-pair_at : goal.decreases-pair_at
decreases-pair_at l = 4 * l.depth + 2

abbrev pub decreases-are_values : goal.decreases-are_values
decreases-are_values l = 4 * l.depth + 3

abbrev pub decreases-are_pairs : goal.decreases-are_pairs
decreases-are_pairs l = 4 * l.depth + 3

-- the bytes are values exactly where those that are left are
abbrev pub invariant-are_values-values : goal.invariant-are_values-values
invariant-are_values-values l = HasValues l.depth l.rest ↔ HasValues l.depth l.bytes

abbrev pub decreases-are_values-values : goal.decreases-are_values-values
decreases-are_values-values l = length l.rest

abbrev pub invariant-are_pairs-pairs : goal.invariant-are_pairs-pairs
invariant-are_pairs-pairs l = HasPairs l.depth l.rest ↔ HasPairs l.depth l.bytes

abbrev pub decreases-are_pairs-pairs : goal.decreases-are_pairs-pairs
decreases-are_pairs-pairs l = length l.rest
