use Rattle.reload_loop.proofs.Outcomes.{was_found}
use Rattle.reload_loop.proofs.looking.look.Goals as goal

pub returns-clause-looks : goal.returns-clause-looks
returns-clause-looks g c = c.act.ensures.looks _ _ _ c.find_again.ensures.found c.find_again.ensures.told

pub returns-clause-found : goal.returns-clause-found
returns-clause-found g c = c.act.ensures.found _ (was_found _ _ _ _ c.find_again.ensures.found)
