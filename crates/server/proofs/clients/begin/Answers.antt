use Rattle.server.proofs.Names.{refl, refused}
use Rattle.server.specs.Clients.{no_clients}
use Rattle.server.proofs.Outcomes.{untouched}
use Rattle.server.proofs.Beginning.{begins}
use Rattle.server.proofs.clients.begin.Goals as goal

pub returns-in-Err-clause-err : goal.returns-in-Err-clause-err
returns-in-Err-clause-err g c = refused _ c.in-Err.ensures.starts refl (untouched _) c.refuse.ensures

pub returns-in-Err-open_sockets-clause-err : goal.returns-in-Err-open_sockets-clause-err
returns-in-Err-open_sockets-clause-err g c = no_clients c.in-Ok.ensures.starts.0.0 c.in-Ok.ensures.starts.0.1 c.in-Err-open_sockets.ensures

pub returns-in-Ok-open_sockets-clause-ok : goal.returns-in-Ok-open_sockets-clause-ok
returns-in-Ok-open_sockets-clause-ok g c = begins _ _ _ _ _ _ _ _ _ _ c.in-Ok.ensures.starts.0 c.in-Ok.ensures.starts.1 c.in-Ok-open_sockets.ensures
