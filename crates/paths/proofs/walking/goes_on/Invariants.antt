use Rattle.paths.proofs.Names.{drop, ◌↔◌, WalksOn, SomeGoesOn}
use Rattle.paths.specs.declared.keyed.KeyedPlace.TheVariants.{Exchange}
use Rattle.paths.proofs.walking.goes_on.Given as goal

abbrev pub invariant-loop-next : goal.invariant-loop-next
invariant-loop-next l = SomeGoesOn l.topology l.queue l.name (drop l.next-index l.rest) l.locations.items ↔ WalksOn l.topology l.queue l.exchange l.rest (Exchange l.key)
