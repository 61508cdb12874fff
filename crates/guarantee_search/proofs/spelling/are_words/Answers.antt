use Rattle.guarantee_search.proofs.Names.{subst, sym, arith, IsFilled}
use Rattle.guarantee_search.proofs.Wording.{filled_at}
use Rattle.guarantee_search.proofs.spelling.are_words.Goals as goal

pub is_word-requires : goal.is_word-requires
is_word-requires c = subst IsFilled (sym c.as_bytes.ensures) (filled_at c.args.words.now c.loop-word.word-index c.word-item.result (omega arith) c.word-item.is c.requires)
