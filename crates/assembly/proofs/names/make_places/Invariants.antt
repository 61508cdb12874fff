use Rattle.assembly.proofs.Imports.{◌≡◌, length}
use Rattle.assembly.proofs.names.make_places.Given as goal

abbrev pub invariant-loop : goal.invariant-loop
invariant-loop l = length l.names.items ≡ l.counter
