use Rattle.serving.proofs.Offering.{served_reloaded, kept_reloaded}
use Rattle.serving.proofs.servers.Server.reload.Goals as goal

pub invariant_of-self : goal.invariant_of-self
invariant_of-self g c =
    let world = g.M.Machine.world in
    kept_reloaded (world c.self.inside.machine) (world c.reload.new.self) _ _ _ _ _ c.reload.result c.reload.ensures.reported c.self.invariant

pub returns-clause-served : goal.returns-clause-served
returns-clause-served g c = λ f traffic now was.
    let world = g.M.Machine.world in
    served_reloaded f traffic now (world c.self.inside.machine) (world c.reload.new.self) c.self.inside.peers.slots (g.M.Machine.config c.args.setup) c.reload.result c.ghost_offers_sound.ensures c.reload.ensures.reported c.reload.ensures.wants
    (rw (← c.self.view_is) at was)
