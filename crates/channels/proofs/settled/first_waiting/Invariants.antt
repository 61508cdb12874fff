use Rattle.channels.proofs.Imports.{◌≡◌, length, waiting}
use Rattle.channels.proofs.settled.first_waiting.Given as goal

-- nothing waited in those that were passed
abbrev pub invariant-places : goal.invariant-places
invariant-places l = waiting l.places.now ≡ waiting l.initial.places.now

abbrev pub decreases-places : goal.decreases-places
decreases-places l = length l.places.now
