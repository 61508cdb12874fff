use Rattle.definitions.proofs.Imports.{◌≡◌, ◌++◌, map, drop}
use Rattle.definitions.proofs.stating.parts_of.Given as goal

abbrev pub invariant-loop-entry : goal.invariant-loop-entry
invariant-loop-entry g l = l.made.items ++ map g.E.Entry.sets_up (drop l.entry-index l.entries) ≡ map g.E.Entry.sets_up l.entries
