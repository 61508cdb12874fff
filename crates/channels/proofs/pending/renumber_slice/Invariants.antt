use Rattle.channels.proofs.Imports.{◌≡◌, outstanding_moved}
use Rattle.channels.proofs.Moving.{changed_to}
use Rattle.channels.proofs.pending.renumber_slice.Given as goal

abbrev pub invariant-loop-one : goal.invariant-loop-one
invariant-loop-one l = l.items ≡ changed_to (outstanding_moved l.places) l.one-index l.initial.items
