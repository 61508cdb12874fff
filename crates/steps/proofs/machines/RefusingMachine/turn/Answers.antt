use Rattle.runs.proofs.Worlds.{waits_not}
use Rattle.steps.proofs.machines.RefusingMachine.turn.Goals as goal

pub returns-then-is_refused-clause-err : goal.returns-then-is_refused-clause-err
returns-then-is_refused-clause-err g c = waits_not _ c.args.c
