use Rattle.server.proofs.Names.{refl}
use Rattle.server.proofs.Beginning.{serves_clients}
use Rattle.server.proofs.clients.serve_clients.Goals as goal

pub returns-in-Err-clause-some : goal.returns-in-Err-clause-some
returns-in-Err-clause-some g c = rw c.without_clients.ensures tt

pub returns-in-Err-clause-none : goal.returns-in-Err-clause-none
returns-in-Err-clause-none g c = rw c.without_clients.ensures c.in-Err.ensures.err

pub returns-clause-some : goal.returns-clause-some
returns-clause-some g c = (serves_clients _ _ _ _ _ _ _ _ _ _ _ c.in-Ok.ensures.ok c.turns_of-turns.ensures c.serve.ensures.rounds (λ f fresh none. c.serve.ensures.served f _ (c.ghost_new_is_served.ensures f fresh none)), refl)
