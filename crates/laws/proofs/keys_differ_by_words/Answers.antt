use Rattle.laws.proofs.Keys.{keys_differ_by_words}
use Rattle.laws.proofs.keys_differ_by_words.Goals as goal

pub returns : goal.returns
returns c = keys_differ_by_words
