use Rattle.server.proofs.Names.{FailsToSetUp, unstated, unset, unrouted}
use Rattle.server.proofs.Kept.{refused_as}
use Rattle.server.proofs.answering.route.Goals as goal

pub returns-in-Ok-None-clause-answers : goal.returns-in-Ok-None-clause-answers
returns-in-Ok-None-clause-answers g c = unrouted (rw c.in-Ok-None.field-0-is at c.in-Ok-None.ensures.lists)

pub returns-in-Err-clause-answers : goal.returns-in-Err-clause-answers
returns-in-Err-clause-answers g c = unset (refused_as (FailsToSetUp _ _ _) _ _ _ _ c.report_of.ensures.file c.report_of.ensures.why (unstated c.in-Err.ensures.lists))
