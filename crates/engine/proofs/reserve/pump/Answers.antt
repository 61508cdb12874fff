use Rattle.engine.proofs.reserve.pump.Goals as goal

pub pump-requires-in-Err : goal.pump-requires-in-Err
pump-requires-in-Err c = rw c.in-Err.ensures.err c.requires

pub returns-in-Err-clause-addressed : goal.returns-in-Err-clause-addressed
returns-in-Err-clause-addressed c = rw (← c.in-Err.ensures.err) c.pump-in-Err.ensures.addressed
