use Rattle.serving.proofs.Offering.{as_reload, reports_reload, lacks_reload, served_reloaded, kept_reloaded}
use Rattle.serving.proofs.servers.Server.put_in_force.Goals as goal

pub invariant_of-self : goal.invariant_of-self
invariant_of-self g c =
    let world = g.M.Machine.world in
    let done = c.put_in_force in
    kept_reloaded (world c.self.inside.machine) (world done.new.self) _ _ _ _ _ (as_reload done.result)
    (reports_reload (world c.self.inside.machine) (world done.new.self) (g.M.Machine.config c.args.setup) done.result done.ensures.ok done.ensures.err) c.self.invariant

pub returns-clause-served : goal.returns-clause-served
returns-clause-served g c = λ f traffic now was.
    let world = g.M.Machine.world in
    let old = world c.self.inside.machine in
    let done = c.put_in_force in
    let offered = g.M.Machine.config c.args.setup in
    served_reloaded f traffic now old (world done.new.self) c.self.inside.peers.slots offered (as_reload done.result) c.ghost_offers_sound.ensures
    (reports_reload old (world done.new.self) offered done.result done.ensures.ok done.ensures.err) (lacks_reload g.M.Machine.lacks old offered done.result done.ensures.wants)
    (rw (← c.self.view_is) at was)
