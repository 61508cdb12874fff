use Rattle.serving.proofs.Turning.{loses_one}
use Rattle.serving.proofs.rounds.drop_lost.Goals as goal

pub returns-clause-lost : goal.returns-clause-lost
returns-clause-lost g c = loses_one (g.M.Machine.world c.args.machine.now) (g.M.Machine.world c.lose.new.self) c.args.peer.connection c.lose.ensures
