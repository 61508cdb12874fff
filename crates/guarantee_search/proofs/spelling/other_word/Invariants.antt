use Rattle.guarantee_search.proofs.Names.{ℕ, ◌<◌, ◌∷◌, decimal, IsIn}
use Rattle.guarantee_search.proofs.spelling.other_word.Given as goal

abbrev pub invariant-loop-number : goal.invariant-loop-number
invariant-loop-number l = (k : ℕ) → k < l.number → IsIn (119 ∷ decimal k) l.names
