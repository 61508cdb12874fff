use Rattle.queue.proofs.Names.{◌≡◌, ◌+◌, ◌≤◌, ◌++◌, length, vec_len, vec_capacity, into_iter_items, into_iter_len}
use Rattle.queue.proofs.slots.move_all.Given as goal

-- what came, with what is still to come, is all; and there is room for it
abbrev pub invariant-loop-slot : goal.invariant-loop-slot
invariant-loop-slot l =
    (l.slots.items ++ into_iter_items l.slot-iterator ≡ l.initial.slots.items ++ into_iter_items l.initial.slot-iterator)
    × (into_iter_len l.slot-iterator ≡ length (into_iter_items l.slot-iterator))
    × (vec_len l.slots + length (into_iter_items l.slot-iterator) ≤ vec_capacity l.slots)
    × (vec_capacity l.slots ≡ vec_capacity l.initial.slots)
