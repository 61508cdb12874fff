use Rattle.queue.proofs.Names.{◌≡◌, ℕ, ◌<◌, get_or, false, None, is_held_as, contents, slot_has}
use Rattle.queue.proofs.slots.search.Given as goal

-- none of those passed is held so
abbrev pub invariant-loop-place : goal.invariant-loop-place
invariant-loop-place l = (k : ℕ) → k < l.place → slot_has (is_held_as l.holder) (get_or (contents l.slots) k None) ≡ false
