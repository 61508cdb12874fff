use Rattle.laws.proofs.Streams.{goes_more}
use Rattle.laws.proofs.going_on_stays.Goals as goal

pub returns : goal.returns
returns c = goes_more
