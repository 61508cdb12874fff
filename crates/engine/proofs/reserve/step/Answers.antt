use Rattle.engine.proofs.reserve.step.Goals as goal

pub returns-in-Err-clause-addressed : goal.returns-in-Err-clause-addressed
returns-in-Err-clause-addressed c = rw (← c.in-Err.ensures.err) c.step-in-Err.ensures.addressed
