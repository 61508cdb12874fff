use Rattle.field_table.proofs.Names.{length}
use Rattle.field_table.proofs.Found.{Seen}
use Rattle.field_table.proofs.lookups.has_field.Given as goal

-- the names of the pairs before the rest were looked at
abbrev pub invariant-pairs : goal.invariant-pairs
invariant-pairs l = Seen l.is_found l.name l.pairs l.rest

abbrev pub decreases-pairs : goal.decreases-pairs
decreases-pairs l = length l.rest
