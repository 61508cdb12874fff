-- What a phase sends can be put out: nothing, one method that is not long, or the protocol header.
use Rattle.session.proofs.Names.{ℕ, [], arith}
use Rattle.model.specs.Sending.{AreOwn}
use Rattle.model.specs.declared.events.Send.TheVariants as send

pub nothing_own : (c : ℕ) → AreOwn c []
nothing_own c = record { each = tt; size = λ max long. omega arith }
