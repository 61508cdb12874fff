use Rattle.laws.proofs.Forms.{bodies_are_cut}
use Rattle.laws.proofs.bodies_are_cut.Goals as goal

pub returns : goal.returns
returns c = bodies_are_cut
