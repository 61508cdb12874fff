use Rattle.json_file.proofs.Names.{◌≡◌, drop, items_view}
use Rattle.json_file.specs.Members.{each}
use Rattle.json_file.proofs.Reading.{with_front}
use Rattle.json_file.proofs.arrays.elements.Given as goal

abbrev pub invariant-loop-value : goal.invariant-loop-value
invariant-loop-value g l = with_front l.found.items (each g.E.FromValue.states (items_view (drop l.value-index l.values))) ≡ each g.E.FromValue.states (items_view l.values)
