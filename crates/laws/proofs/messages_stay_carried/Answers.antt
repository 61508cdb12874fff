use Rattle.laws.proofs.Carried.{stay_carried}
use Rattle.laws.proofs.messages_stay_carried.Goals as goal

pub returns : goal.returns
returns c = stay_carried
