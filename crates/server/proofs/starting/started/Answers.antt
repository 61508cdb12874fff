use Rattle.server.proofs.Names.{in_force, no_memory}
use Rattle.server.proofs.Judged.{judged_over}
use Rattle.server.proofs.starting.started.Goals as goal

pub returns-in-Err-clause-started : goal.returns-in-Err-clause-started
returns-in-Err-clause-started g c = record { fails = c.in-Err.ensures.force; judged = judged_over _ _ _ _ _ _ c.in-Err.ensures.force }

pub returns-in-Ok-new-clause-started : goal.returns-in-Ok-new-clause-started
returns-in-Ok-new-clause-started g c = (in_force c.in-Ok.force.0 c.in-Ok.force.1.items, c.in-Ok.ensures.force, rw c.drop_notes.ensures c.in-Ok-new.ensures)

pub returns-in-Err-new-clause-started : goal.returns-in-Err-new-clause-started
returns-in-Err-new-clause-started g c = record { fails = rw c.from.ensures no_memory; judged = rw c.from.ensures tt }
