use Rattle.certificate_laws.proofs.Exact.{exact}
use Rattle.certificate_laws.proofs.states_are_exact.Goals as goal

pub returns : goal.returns
returns c = exact
