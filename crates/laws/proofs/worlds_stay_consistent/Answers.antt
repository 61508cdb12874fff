use Rattle.laws.proofs.Consistency.{stay_consistent, plays_consistent}
use Rattle.laws.proofs.worlds_stay_consistent.Goals as goal

pub returns : goal.returns
returns c = record { worlds = stay_consistent; plays = plays_consistent }
