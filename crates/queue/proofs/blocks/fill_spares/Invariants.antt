use Rattle.queue.proofs.Names.{◌≤◌, ◌-◌, max, vec_len, AreWhole}
use Rattle.queue.proofs.blocks.fill_spares.Given as goal

-- there are no fewer than at the start, and no more than are wanted
abbrev pub invariant-filling : goal.invariant-filling
invariant-filling l = AreWhole l.spares.items × (vec_len l.initial.spares ≤ vec_len l.spares) × (vec_len l.spares ≤ max l.count (vec_len l.initial.spares))

abbrev pub decreases-filling : goal.decreases-filling
decreases-filling l = l.count - vec_len l.spares
