use Rattle.certificate_laws.proofs.Certificates.{start_each, step_each}
use Rattle.certificate_laws.proofs.positions_record_matches.Goals as goal

pub returns-clause-start : goal.returns-clause-start
returns-clause-start c = start_each

pub returns-clause-step : goal.returns-clause-step
returns-clause-step c ps a w ws ms ns s t z = step_each a w ws ps ms ns s t z
