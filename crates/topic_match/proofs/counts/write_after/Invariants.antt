use Rattle.topic_match.proofs.Names.{◌≡◌, ◌+◌, ◌∷◌, ◌++◌, [], List, length, take, Token, AreCounts, AreCountsTo}
use Rattle.topic_match.proofs.counts.write_after.Given as goal

abbrev pub invariant-loop-place : goal.invariant-loop-place
invariant-loop-place l = record {
  size : length l.after ≡ length l.words + 1;
  counts : (b : List Token) → AreCounts b l.words l.before → AreCountsTo (b ++ l.token ∷ []) l.words l.place (take (l.place + 1) l.after) l.was;
}
