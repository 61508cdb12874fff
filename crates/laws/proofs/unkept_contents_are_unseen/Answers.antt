use Rattle.laws.proofs.Unkept.{unseen}
use Rattle.laws.proofs.unkept_contents_are_unseen.Goals as goal

pub returns : goal.returns
returns c = unseen
