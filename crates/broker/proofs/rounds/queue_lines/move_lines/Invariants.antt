use Rattle.broker.proofs.Names.{◌<◌, ◌≤◌, ℕ, length, place_now, line_of, QueuesAreMarked, LinesCome}
use Rattle.std.proofs.Common.{◌≡◌}
use Rattle.broker.proofs.rounds.queue_lines.move_lines.Given as goal

-- the lines before this place are moved, and those from it on are as they were
abbrev pub invariant-loop-from : goal.invariant-loop-from
invariant-loop-from l = record {
  behind : (i : ℕ) → l.from ≤ i → line_of l.old i ≡ line_of l.initial.old i;
  moved : (i : ℕ) → i < l.from → place_now l.places i < length l.initial.lines → (line_of l.lines (place_now l.places i)).order ≡ (line_of l.initial.old i).order;
  came : LinesCome l.places l.initial.old l.initial.lines l.lines;
  marked : QueuesAreMarked l.lines l.awake;
}
