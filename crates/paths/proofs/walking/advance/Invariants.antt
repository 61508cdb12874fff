use Rattle.paths.proofs.Names.{take, AreOneOn}
use Rattle.paths.proofs.walking.advance.Given as goal

abbrev pub invariant-loop-location : goal.invariant-loop-location
invariant-loop-location l = AreOneOn l.topology l.name l.next (take l.location-index l.locations) l.found.items
