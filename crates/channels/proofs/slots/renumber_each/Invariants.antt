use Rattle.channels.proofs.Imports.{◌≡◌, open_moved}
use Rattle.std.specs.Prelude.{option_map}
use Rattle.channels.proofs.Moving.{changed_to}
use Rattle.channels.proofs.slots.renumber_each.Given as goal

abbrev pub invariant-loop-slot : goal.invariant-loop-slot
invariant-loop-slot l = l.channels ≡ changed_to (option_map (open_moved l.places)) l.slot-index l.initial.channels
