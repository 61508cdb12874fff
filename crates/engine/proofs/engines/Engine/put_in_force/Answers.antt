use Rattle.engine.proofs.Names.{◌∙◌, ap, sym, subst, err_from_is_err_and, Config, Topology, LinesMove, WithTurn, IsPutInForce, in_force, Parts, world_of, IsEngine}
use Rattle.model.specs.Reloading.{NoneIsOrphaned}
use Rattle.broker.specs.Turns.{topology_kept, broker_of}
use Rattle.engine.proofs.Putting.{unhindered, takes, offered_sound, put_world, put_engine}
use Rattle.engine.proofs.engines.Engine.put_in_force.Goals as goal

pub reload-requires : goal.reload-requires
reload-requires c =
    let i = c.self.inside in
    let old : Parts = record { broker = i.broker; guarantees = i.guarantees.items; users = i.users.items; given = i.given; connections = i.connections.items } in
    let nothing = unhindered {old = old} c.self.view_is c.into_parts-checked.ensures c.requires.nothing in
    subst (λ (t : Topology). NoneIsOrphaned (topology_kept i.broker) t (broker_of i.broker)) (sym c.into_parts-topology.ensures.topology) nothing.none_stranded

pub invariant_of-self : goal.invariant_of-self
invariant_of-self c =
    let i = c.self.inside in
    let old : Parts = record { broker = i.broker; guarantees = i.guarantees.items; users = i.users.items; given = i.given; connections = i.connections.items } in
    subst (λ (b : WithTurn). IsEngine (record old { broker = b })) (sym c.in_err-reload.ensures.err) c.self.invariant

pub returns-in_err-reload-clause-done : goal.returns-in_err-reload-clause-done
returns-in_err-reload-clause-done c =
    let p = err_from_is_err_and c.from_residual.result c.from_residual.ensures.1 in
    rw (p.1) tt

pub returns-in_err-reload-clause-kept : goal.returns-in_err-reload-clause-kept
returns-in_err-reload-clause-kept c =
    let i = c.self.inside in
    let old : Parts = record { broker = i.broker; guarantees = i.guarantees.items; users = i.users.items; given = i.given; connections = i.connections.items } in
    let p = err_from_is_err_and c.from_residual.result c.from_residual.ensures.1 in
    rw (p.1) (rw (← c.self.view_is) (ap (λ (b : WithTurn). record old { broker = b }) c.in_err-reload.ensures.err))

pub returns-in_err-reload-clause-lines : goal.returns-in_err-reload-clause-lines
returns-in_err-reload-clause-lines c =
    let p = err_from_is_err_and c.from_residual.result c.from_residual.ensures.1 in
    rw (p.1) tt

pub invariant_of-self-2 : goal.invariant_of-self-2
invariant_of-self-2 c =
    let i = c.self.inside in
    let old : Parts = record { broker = i.broker; guarantees = i.guarantees.items; users = i.users.items; given = i.given; connections = i.connections.items } in
    let given = c.into_parts-checked in
    let parts = c.into_parts-topology in
    let nothing = unhindered {old = old} c.self.view_is given.ensures c.requires.nothing in
    put_engine old _ _ c.self.invariant (offered_sound given.result.0 given.result.1.items parts.result.0 parts.result.1.items parts.ensures.topology parts.ensures.guarantees parts.ensures.hold parts.ensures.well_formed)
    (takes old c.reload.new.self given.result.0 given.result.1.items parts.result.0 parts.result.1.items parts.ensures.topology parts.ensures.guarantees nothing c.in_ok-reload.ensures.topology c.in_ok-reload.ensures.survived)

pub returns-clause-done : goal.returns-clause-done
returns-clause-done c =
    let i = c.self.inside in
    let old : Parts = record { broker = i.broker; guarantees = i.guarantees.items; users = i.users.items; given = i.given; connections = i.connections.items } in
    let given = c.into_parts-checked in
    let parts = c.into_parts-topology in
    let new : Parts = record old { broker = c.reload.new.self; guarantees = parts.result.1.items; users = given.result.1.items } in
    let nothing = unhindered {old = old} c.self.view_is given.ensures c.requires.nothing in
    let put : IsPutInForce (world_of old) (in_force given.result.0 given.result.1.items) (world_of new) =
    put_world old new _ (takes old c.reload.new.self given.result.0 given.result.1.items parts.result.0 parts.result.1.items parts.ensures.topology parts.ensures.guarantees nothing c.in_ok-reload.ensures.topology c.in_ok-reload.ensures.survived) in
    subst (λ (p : Parts). IsPutInForce (world_of p) c.args.setup (world_of new)) c.self.view_is (subst (λ (s : Config). IsPutInForce (world_of old) s (world_of new)) (sym given.ensures) put)

pub returns-clause-lines : goal.returns-clause-lines
returns-clause-lines c = subst (λ (p : Parts). LinesMove p.broker c.reload.new.self) c.self.view_is c.in_ok-reload.ensures.lines
