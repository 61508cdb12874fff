use Rattle.queue.proofs.Names.{◌≡◌, ◌++◌, map, take, drop, survived_now}
use Rattle.queue.proofs.lists.mark_reloaded.Given as goal

-- those before the index are done
abbrev pub invariant-loop-entry : goal.invariant-loop-entry
invariant-loop-entry l = l.entries ≡ map survived_now (take l.entry-index l.fn.entries) ++ drop l.entry-index l.fn.entries
