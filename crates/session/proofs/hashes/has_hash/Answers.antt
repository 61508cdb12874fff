use Rattle.session.proofs.Names.{sym, arith}
use Rattle.session.proofs.Hashing.{other_length}
use Rattle.session.proofs.hashes.has_hash.Goals as goal

pub returns-in_default : goal.returns-in_default
returns-in_default c = sym (other_length c.args.hash.now c.args.password.now (λ e. omega (arith, e, c.in_default.ensures.cases)))
