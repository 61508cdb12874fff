-- The payload is refused where it is too short, and else is what its class, method and arguments say.
use Rattle.methods.proofs.Names.{too_short}
use Rattle.methods.proofs.Whole.{tells, only}
use Rattle.methods.proofs.reading.read_method.Goals as goal

pub returns-in-None-clause-read : goal.returns-in-None-clause-read
returns-in-None-clause-read c = too_short c.in-None.ensures

pub returns-in-Some-clause-read : goal.returns-in-Some-clause-read
returns-in-Some-clause-read c = tells c.args.payload.now _ _ _ c.with_ids.result (λ i. (c.type_inv.payload i).fits) c.in-Some.ensures c.with_ids.ensures

pub returns-in-Some-clause-only : goal.returns-in-Some-clause-only
returns-in-Some-clause-only c = λ m fits s. only c.args.payload.now _ _ _ c.with_ids.result m c.in-Some.ensures c.with_ids.ensures fits s
