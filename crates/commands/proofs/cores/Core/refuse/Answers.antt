use Rattle.commands.proofs.Names.{IfOk-weaker}
use Rattle.commands.proofs.cores.Core.refuse.Goals as goal

-- whichever channel asks for it
pub returns-in-Connection-clause-ended : goal.returns-in-Connection-clause-ended
returns-in-Connection-clause-ended c = IfOk-weaker c.close_connection.result _ _ (λ a own. own c.args.channel) c.close_connection.ensures.ended
