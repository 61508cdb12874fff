use Rattle.guarantee_search.proofs.Wording.{word_from}
use Rattle.guarantee_search.proofs.spelling.is_word.Goals as goal

pub returns : goal.returns
returns c = word_from c.args.word.now c.type_inv.word c.requires
