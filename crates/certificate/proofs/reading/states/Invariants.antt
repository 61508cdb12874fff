use Rattle.certificate.proofs.Names.{◌≡◌, drop, items_view, with_front, states_of}
use Rattle.json_file.specs.Members.{each}
use Rattle.certificate.specs.Stated.{state_in}
use Rattle.certificate.proofs.reading.states.Given as goal

abbrev pub invariant-loop-value : goal.invariant-loop-value
invariant-loop-value l = with_front (states_of l.found.items) (each state_in (items_view (drop l.value-index l.values))) ≡ each state_in (items_view l.values)
