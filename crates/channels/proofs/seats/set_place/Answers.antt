use Rattle.channels.proofs.Imports.{refl}
use Rattle.channels.proofs.Seating.{set_consumers, set_counts}
use Rattle.channels.proofs.seats.set_place.Goals as goal

pub returns-in-Some-clause-consumers : goal.returns-in-Some-clause-consumers
returns-in-Some-clause-consumers c = set_consumers c.args.consumers.now c.in-Some.index c.index-consumers-index.result _ refl

pub returns-in-Some-clause-held : goal.returns-in-Some-clause-held
returns-in-Some-clause-held c = set_counts c.args.consumers.now c.in-Some.index c.index-consumers-index.result _ refl
