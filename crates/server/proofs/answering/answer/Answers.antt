use Rattle.server.proofs.Names.{[], refl, NotListening}
use Rattle.server.specs.Program.{no_sockets}
use Rattle.server.proofs.answering.answer.Goals as goal

pub returns-in-Serve : goal.returns-in-Serve
returns-in-Serve g c = record { file = []; why = NotListening; fails = (rw c.in-Serve.is no_sockets, λ name. refl); reported = c.refuse-in-Serve.ensures }
