use Rattle.channels.proofs.Imports.{◌≡◌, counted_moved}
use Rattle.channels.proofs.Moving.{changed_to}
use Rattle.channels.proofs.consumers.renumber_slice.Given as goal

abbrev pub invariant-loop-counted : goal.invariant-loop-counted
invariant-loop-counted l = l.consumers ≡ changed_to (counted_moved l.places) l.counted-index l.initial.consumers
