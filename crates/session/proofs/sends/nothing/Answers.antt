use Rattle.session.proofs.Owned.{nothing_own}
use Rattle.session.proofs.sends.nothing.Goals as goal

pub returns-clause-own : goal.returns-clause-own
returns-clause-own c = rw (c.new.ensures.items) nothing_own
