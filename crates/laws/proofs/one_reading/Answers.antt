use Rattle.laws.proofs.Reading.{reading_apart}
use Rattle.laws.proofs.one_reading.Goals as goal

pub returns : goal.returns
returns c = reading_apart
