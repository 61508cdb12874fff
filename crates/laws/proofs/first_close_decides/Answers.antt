use Rattle.laws.proofs.Forms.{first_decides}
use Rattle.laws.proofs.first_close_decides.Goals as goal

pub returns : goal.returns
returns c = first_decides
