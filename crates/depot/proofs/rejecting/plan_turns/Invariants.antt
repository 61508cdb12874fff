use Rattle.depot.proofs.Names.{◌≡◌, ◌+◌, ◌≤◌, List, length, map, drop, vec_len, vec_capacity, Entry, entries_of, turn_at, AreTallied, EnterBelow, Extends, so_far}
use Rattle.depot.proofs.Foreseen.{Foreseeing}
use Rattle.depot.proofs.rejecting.plan_turns.Given as goal

-- what was foreseen of the targets before the index and what is foreseen of the others is the whole
abbrev pub invariant-loop-target : goal.invariant-loop-target
invariant-loop-target l = record {
  foreseen : (entries : List (List Entry)) → AreTallied l.declared (entries_of l.queues) l.fn.plan.tallies.entries entries
      → Foreseeing l.declared (entries_of l.queues) (map (turn_at l.declared l.letter) l.targets) (map (turn_at l.declared l.letter) (drop l.target-index l.targets)) entries
      (so_far l.fn.plan l.fn.notes) (so_far l.plan l.notes);
  within : EnterBelow (length l.queues) l.fn.plan.arrivals.items → EnterBelow (length l.queues) l.plan.arrivals.items;
  notes : Extends l.fn.notes.items l.notes.items;
  notes_len : vec_len l.notes ≤ vec_len l.fn.notes + l.target-index;
  notes_capacity : vec_capacity l.notes ≡ vec_capacity l.fn.notes;
}
