use Rattle.guarantee_search.proofs.Names.{◌≡◌, ◌++◌, drop}
use Rattle.guarantee_search.proofs.spelling.copy_words.Given as goal

abbrev pub invariant-loop-word : goal.invariant-loop-word
invariant-loop-word l = l.made.items ++ drop l.word-index l.words ≡ l.words
