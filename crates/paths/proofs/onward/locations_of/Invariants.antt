use Rattle.paths.proofs.Names.{◌≡◌, map, take, location_at}
use Rattle.paths.proofs.onward.locations_of.Given as goal

abbrev pub invariant-loop-end : goal.invariant-loop-end
invariant-loop-end l = l.found.items ≡ map (location_at l.fixed) (take l.end-index l.ends)
