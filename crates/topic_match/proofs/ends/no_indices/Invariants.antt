use Rattle.topic_match.proofs.Names.{◌≡◌, ℕ, [], length, get_or}
use Rattle.topic_match.proofs.ends.no_indices.Given as goal

abbrev pub invariant-loop-index : goal.invariant-loop-index
invariant-loop-index l = record {
  size : length l.lists.items ≡ l.index;
  none : (c : ℕ) → get_or l.lists.items c [] ≡ [];
}
