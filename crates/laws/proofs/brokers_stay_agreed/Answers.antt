use Rattle.laws.proofs.Agreed.{stay_agreed}
use Rattle.laws.proofs.brokers_stay_agreed.Goals as goal

pub returns : goal.returns
returns c = stay_agreed
