use Rattle.laws.proofs.Never.{run_origins}
use Rattle.laws.proofs.what_enters_has_an_origin.Goals as goal

pub returns : goal.returns
returns c = run_origins
