use Rattle.server.proofs.Names.{refl}
use Rattle.server.proofs.Outcomes.{untouched, shows}
use Rattle.server.proofs.answering.program.Goals as goal

pub returns-in-Err : goal.returns-in-Err
returns-in-Err g c = shows _ _ _ _ _ c.in-Err.error _ c.in-Err.ensures (untouched _) (λ name. refl) c.refuse_words.ensures
