use Rattle.headers.proofs.Told
use Rattle.headers.proofs.laws.ghost_one_header.Goals as goal

pub returns : goal.returns
returns c = Told.one_header
