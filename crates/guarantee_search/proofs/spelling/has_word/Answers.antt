use Rattle.guarantee_search.proofs.Wording.{any_word}
use Rattle.guarantee_search.proofs.spelling.has_word.Goals as goal

pub returns : goal.returns
returns c = rw c.any_word.ensures (any_word c.args.word.now c.args.words.now)
