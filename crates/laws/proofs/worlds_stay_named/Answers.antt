use Rattle.laws.proofs.Naming.{worlds_named, plays_named}
use Rattle.laws.proofs.worlds_stay_named.Goals as goal

pub returns : goal.returns
returns c = record { worlds = worlds_named; plays = plays_named }
