use Rattle.server.proofs.Names.{no_memory}
use Rattle.server.proofs.clients.new_server.Goals as goal

pub returns-in-Err-new-clause-starts : goal.returns-in-Err-new-clause-starts
returns-in-Err-new-clause-starts g c = record { fails = rw c.from.ensures no_memory; judged = rw c.from.ensures tt }
