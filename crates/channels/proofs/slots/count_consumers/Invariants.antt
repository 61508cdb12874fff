use Rattle.channels.proofs.Imports.{◌≡◌, take, sum_by, min, greatest, consumers_at}
use Rattle.channels.proofs.slots.count_consumers.Given as goal

-- those before the index are counted
abbrev pub invariant-loop-slot : goal.invariant-loop-slot
invariant-loop-slot l = l.count ≡ min (sum_by (consumers_at l.queue) (take l.slot-index l.channels)) greatest
