use Rattle.commands.proofs.Names.{Kept}
use Rattle.commands.proofs.Woken.{woken_of}
use Rattle.commands.proofs.cores.Core.wake.Goals as goal

pub returns-clause-awake : goal.returns-clause-awake
returns-clause-awake g c =
    let kept : Kept = record { store = c.self.inside.depot; connections = c.self.inside.connections } in
    rw (← c.self.view_is) (woken_of kept (g.W.Wakes.is_awake c.wake.new.waker) c.args.connection c.args.channel c.wake.ensures.awake)
