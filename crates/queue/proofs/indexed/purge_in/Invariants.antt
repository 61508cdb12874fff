use Rattle.queue.proofs.Names.{◌≡◌, ◌++◌, ◌+◌, ◌≤◌, map, filter, vec_len, vec_capacity, is_ready, ready_count, number_of}
use Rattle.std.proofs.Common.{not}
use Rattle.queue.proofs.indexed.purge_in.Given as goal

-- what was taken out, with what is still to be taken, is all that was ready; the rest is as it was
abbrev pub invariant-loop-entry : goal.invariant-loop-entry
invariant-loop-entry l =
    (l.numbers.items ++ map number_of (filter is_ready l.queue.entries) ≡ l.initial.numbers.items ++ map number_of (filter is_ready l.initial.queue.entries))
    × ((filter (λ e. not (is_ready e)) l.queue.entries ≡ filter (λ e. not (is_ready e)) l.initial.queue.entries)
    × ((vec_len l.numbers + ready_count l.queue.entries ≤ vec_capacity l.numbers)
    × ((vec_capacity l.numbers ≡ vec_capacity l.initial.numbers) × (l.queue.room ≡ l.initial.queue.room))))

abbrev pub decreases-loop-entry : goal.decreases-loop-entry
decreases-loop-entry l = ready_count l.queue.entries
