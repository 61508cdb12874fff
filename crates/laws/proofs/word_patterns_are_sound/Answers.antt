use Rattle.laws.proofs.Keys.{word_patterns_are_sound}
use Rattle.laws.proofs.word_patterns_are_sound.Goals as goal

pub returns : goal.returns
returns c = word_patterns_are_sound
