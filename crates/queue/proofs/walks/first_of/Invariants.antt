use Rattle.queue.proofs.Names.{◌≡◌, length, contents, somes}
use Rattle.queue.proofs.walks.first_of.Given as goal

-- nothing stood in those that were passed
abbrev pub invariant-slots : goal.invariant-slots
invariant-slots l = somes (contents l.slots.now) ≡ somes (contents l.initial.slots.now)

abbrev pub decreases-slots : goal.decreases-slots
decreases-slots l = length l.slots.now
