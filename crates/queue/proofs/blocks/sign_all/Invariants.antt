use Rattle.queue.proofs.Names.{◌≡◌, [], is_ready, parts, some_pass}
use Rattle.queue.proofs.Slotted.{SignedBelow}
use Rattle.queue.proofs.blocks.sign_all.Given as goal

abbrev pub invariant-loop-place : goal.invariant-loop-place
invariant-loop-place l = SignedBelow (some_pass is_ready) [] (parts l.blocks) l.signs l.place l.places × (l.signs.places ≡ l.initial.signs.places)
