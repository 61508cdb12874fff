use Rattle.queue.proofs.Names.{◌≡◌, None, is_ready, contents, slot_has}
use Rattle.queue.proofs.Slotted.{SignedBelow}
use Rattle.queue.proofs.slots.sign_all.Given as goal

abbrev pub invariant-loop-place : goal.invariant-loop-place
invariant-loop-place l = SignedBelow (slot_has is_ready) None (contents l.slots) l.signs l.place l.places × (l.signs.places ≡ l.initial.signs.places)
