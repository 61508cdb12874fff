use Rattle.server.proofs.Outcomes.{untouched, puts, reports}
use Rattle.server.proofs.answering.answer_asked.Goals as goal

pub returns-in-Ok : goal.returns-in-Ok
returns-in-Ok g c = λ words asks. puts _ _ _ _ _ _ _ _ _ _ _ _ asks c.in-Ok.ensures.0 c.in-Ok.ensures.1 c.put_answer.ensures

pub returns-in-Err : goal.returns-in-Err
returns-in-Err g c = λ words asks. reports _ _ _ _ _ _ _ _ _ asks c.in-Err.ensures.fails (untouched _) c.in-Err.ensures.reported
