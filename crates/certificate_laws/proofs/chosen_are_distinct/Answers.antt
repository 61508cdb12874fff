use Rattle.certificate_laws.proofs.Indices.{chosen_once}
use Rattle.certificate_laws.proofs.chosen_are_distinct.Goals as goal

pub returns : goal.returns
returns c = chosen_once
