use Rattle.queue.proofs.Names.{◌≡◌, ◌++◌, map, take, drop, survived_now, contents, changed}
use Rattle.queue.proofs.slots.mark_reloaded_in.Given as goal

-- those before the index are done
abbrev pub invariant-loop-slot : goal.invariant-loop-slot
invariant-loop-slot l = contents l.slots ≡ map (changed survived_now) (take l.slot-index (contents l.fn.slots)) ++ drop l.slot-index (contents l.fn.slots)
