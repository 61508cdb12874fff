use Rattle.guarantee_search.proofs.Wording.{WordsFrom}
use Rattle.guarantee_search.proofs.spelling.are_words.Given as goal

abbrev pub invariant-loop-word : goal.invariant-loop-word
invariant-loop-word l = WordsFrom l.words l.word-index
