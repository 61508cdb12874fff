use Rattle.assembly.proofs.Imports.{◌≡◌, length}
use Rattle.assembly.specs.Names.{AreRight}
use Rattle.assembly.proofs.names.make_slots.Given as goal

abbrev pub invariant-loop : goal.invariant-loop
invariant-loop l = record {
  kept : AreRight l.slots.items;
  few : length l.slots.items ≡ l.counter;
}
