use Rattle.laws.proofs.Streams.{fault_stays}
use Rattle.laws.proofs.faults_stay.Goals as goal

pub returns : goal.returns
returns c = fault_stays
