use Rattle.headers.proofs.Names.{subst, ℕ, Ok, SaysSize, size, no_header}
use Rattle.headers.proofs.reading.read_size.Goals as goal

pub returns-in-None : goal.returns-in-None
returns-in-None c = no_header c.in-None.ensures

pub returns-in-Some : goal.returns-in-Some
returns-in-Some c = let f = c.in-Some.ensures in subst (λ (n : ℕ). SaysSize c.args.payload.now (Ok n)) f.size_is (size f.long f.class_is f.weight_is)
