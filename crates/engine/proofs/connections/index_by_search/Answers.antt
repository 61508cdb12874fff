use Rattle.engine.proofs.Names.{rules, answers_always}
use Rattle.engine.proofs.Found.{found, not_found}
use Rattle.engine.proofs.connections.index_by_search.Goals as goal

pub returns-in-Ok-clause-index : goal.returns-in-Ok-clause-index
returns-in-Ok-clause-index c = found c.args.connections.now c.args.number c.in-Ok.place c.in-Ok.ensures.bound (c.in-Ok.ensures.position (λ l. l.number) (answers_always _ _ _ (λ f a r g called. search rules)))

pub returns-in-Err-clause-index : goal.returns-in-Err-clause-index
returns-in-Err-clause-index c = not_found c.args.connections.now c.args.number c.in-Err.field-0 c.requires (c.in-Err.ensures.position (λ l. l.number) (answers_always _ _ _ (λ f a r g called. search rules)))
