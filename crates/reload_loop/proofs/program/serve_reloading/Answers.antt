use Rattle.reload_loop.proofs.Imports.{unserved}
use Rattle.reload_loop.proofs.Reloading.{serves_kept, serves_reloading}
use Rattle.reload_loop.proofs.program.serve_reloading.Goals as goal

pub returns-in-Err-clause-yes : goal.returns-in-Err-clause-yes
returns-in-Err-clause-yes g c = rw c.without_clients.ensures tt

pub returns-in-Err-clause-no : goal.returns-in-Err-clause-no
returns-in-Err-clause-no g c = rw c.without_clients.ensures (unserved _ c.take-kept.ensures.read c.in-Err.ensures.err)

pub returns-clause-yes : goal.returns-clause-yes
returns-clause-yes g c = (
  c.serve_and_reload-whole.result,
  serves_reloading _ _ _ _ _ _ _ _ _ _ _ _ _ _ _ _ _ c.take-kept.ensures.read c.in-Ok.ensures.ok c.turns_of-turns.ensures c.every_of-every.ensures
      (serves_kept _ _ _ _ _ _ _ _ _ _ _ c.take-kept.ensures.files c.serve_and_reload-whole.ensures.serves)
      (λ f fresh none. c.serve_and_reload-whole.ensures.served f _ (c.ghost_new_is_served.ensures f fresh none)),
  c.status_of.ensures,
)
