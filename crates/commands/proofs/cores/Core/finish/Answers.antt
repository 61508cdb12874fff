use Rattle.commands.proofs.Names.{IfOk-weaker}
use Rattle.commands.proofs.cores.Core.finish.Goals as goal

-- whichever channel asks for it
pub returns-in-CloseConnection-clause-ended : goal.returns-in-CloseConnection-clause-ended
returns-in-CloseConnection-clause-ended g c = IfOk-weaker c.close_connection.result _ _ (λ a own. own c.args.id.number) c.close_connection.ensures.ended
