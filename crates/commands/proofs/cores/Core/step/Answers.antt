use Rattle.commands.proofs.Names.{IfOk-weaker}
use Rattle.commands.proofs.cores.Core.step.Goals as goal

pub returns-in-Command-clause-addressed : goal.returns-in-Command-clause-addressed
returns-in-Command-clause-addressed g c = rw c.in-Command.is (IfOk-weaker c.command.result _ _ (λ s own said carried. own said.0 carried) c.command.ensures.addressed)

-- whichever channel asks for it
pub returns-in-Fault-clause-ended : goal.returns-in-Fault-clause-ended
returns-in-Fault-clause-ended g c = rw c.in-Fault.is (IfOk-weaker c.close_connection.result _ _ (λ a own. own 0) c.close_connection.ensures.ended)
