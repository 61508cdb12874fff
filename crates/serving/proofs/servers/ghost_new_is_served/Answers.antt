use Rattle.serving.proofs.Names.{subst, World, IsSound}
use Rattle.serving.proofs.Keeping.{new_served}
use Rattle.serving.proofs.servers.ghost_new_is_served.Goals as goal

pub returns : goal.returns
returns g c = λ f fresh none.
    let sound = subst (λ (w : World). IsSound w.config) fresh c.ghost_is_sound.ensures in
    new_served f (g.M.Machine.world c.args.server.now.machine) c.args.server.now.peers (g.W.Wire.past c.args.wire.now) sound fresh none
