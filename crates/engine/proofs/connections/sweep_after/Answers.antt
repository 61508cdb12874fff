use Rattle.engine.proofs.Names.{sym}
use Rattle.engine.proofs.Swept.{swept_not_gone}
use Rattle.engine.proofs.connections.sweep_after.Goals as goal

pub returns-else-has_performed : goal.returns-else-has_performed
returns-else-has_performed c = λ l there. swept_not_gone c.args.connections.now.items c.args.index l (c.requires.not_gone (sym c.if-has_performed.ensures) l there)
