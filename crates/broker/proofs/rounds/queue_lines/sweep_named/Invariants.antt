use Rattle.broker.proofs.Names.{◌<◌, ◌≤◌, ◌-◌, ℕ, length, bit_of, line_of, QueuesAreMarked, LeavesIfNamed, NobodyFallsAsleep}
use Rattle.std.proofs.Common.{◌≡◌}
use Rattle.broker.proofs.rounds.queue_lines.sweep_named.Given as goal

-- the lines before the next are swept if they are in the set, and those from it on are as they were, and so are their bits
abbrev pub invariant-named : goal.invariant-named
invariant-named l = record {
  size : length l.named ≡ length l.fn.named;
  marked : QueuesAreMarked l.lines l.awake;
  asleep : NobodyFallsAsleep l.fn.lines l.lines;
  left : (i : ℕ) → i < l.next → LeavesIfNamed l.who l.fn.named l.fn.lines l.lines i;
  behind : (i : ℕ) → l.next ≤ i → bit_of l.named i ≡ bit_of l.fn.named i;
  same : (i : ℕ) → l.next ≤ i → line_of l.lines i ≡ line_of l.fn.lines i;
}

abbrev pub decreases-named : goal.decreases-named
decreases-named l = length l.lines - l.next
