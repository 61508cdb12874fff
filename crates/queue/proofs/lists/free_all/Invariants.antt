use Rattle.queue.proofs.Names.{◌≡◌, ◌++◌, map, take, drop, freed, is_under}
use Rattle.queue.proofs.lists.free_all.Given as goal

-- those before the index are done
abbrev pub invariant-loop-entry : goal.invariant-loop-entry
invariant-loop-entry l = l.entries ≡ map (freed (is_under l.holder)) (take l.entry-index l.fn.entries) ++ drop l.entry-index l.fn.entries
