use Rattle.queue.proofs.Names.{◌≡◌, ◌++◌, [], length, contents, somes, parts, joined}
use Rattle.queue.proofs.walks.first_in.Given as goal

-- nothing stands in the slots, and nothing stood in what was passed
abbrev pub invariant-ahead : goal.invariant-ahead
invariant-ahead l =
    (somes (contents l.slots.now) ≡ [])
    × (joined (parts l.blocks.now) ≡ somes (contents l.fn.slots.now) ++ joined (parts l.fn.blocks.now))

abbrev pub decreases-ahead : goal.decreases-ahead
decreases-ahead l = length l.blocks.now
