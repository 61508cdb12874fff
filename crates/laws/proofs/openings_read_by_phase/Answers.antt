use Rattle.laws.proofs.Openings.{read_by_phase}
use Rattle.laws.proofs.openings_read_by_phase.Goals as goal

pub returns : goal.returns
returns c = read_by_phase
