use Rattle.laws.proofs.Traced.{stay_traced}
use Rattle.laws.proofs.messages_stay_traced.Goals as goal

pub returns : goal.returns
returns c = stay_traced
