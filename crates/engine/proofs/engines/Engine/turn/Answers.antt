use Rattle.engine.proofs.Names.{◌≡◌, get_or, refl, sym, subst, Some, IfOk, OnErr, Parts, world_of, IsConnectionIndex, TurnLeaves, rules_of}
use Rattle.broker.specs.Turns.{topology_kept, broker_of}
use Rattle.engine.proofs.Swept.{connections_took, not_gone_after}
use Rattle.engine.proofs.Tooks.{took, took_engine, not_there}
use Rattle.engine.proofs.Waiting.{leaves_at, leaves_here}
use Rattle.engine.proofs.engines.Engine.turn.Goals as goal

pub sweep_after-requires-clause-not_gone : goal.sweep_after-requires-clause-not_gone
sweep_after-requires-clause-not_gone c =
    let i = c.self.inside in
    let l = c.index_mut.result.now in
    let did = c.turn_connection-turn.ensures in
    not_gone_after c.turn_connection-turn.result (rules_of (topology_kept i.broker) c.as_slice.result.now) (broker_of i.broker) i.given i.connections.items c.in-Some.place l c.turn_connection-turn.new.connection (broker_of c.turn_connection-turn.new.broker)
    c.self.invariant.connections.each (rw (← c.deref.ensures.value) c.in-Some.ensures.within) (sym c.index_mut.ensures.value) did.ok did.err

pub invariant_of-self : goal.invariant_of-self
invariant_of-self c =
    let i = c.self.inside in
    let l = c.index_mut.result.now in
    let did = c.turn_connection-turn.ensures in
    let place : IsConnectionIndex i.connections.items c.args.c (Some c.in-Some.place) = rw (← c.deref.ensures.value) c.in-Some.ensures.index in
    let here : get_or i.connections.items c.in-Some.place l ≡ l = sym c.index_mut.ensures.value in
    took_engine (record { broker = i.broker; guarantees = i.guarantees.items; users = i.users.items; given = i.given; connections = i.connections.items }) _ c.in-Some.place c.turn_connection-turn.result c.self.invariant
    (record { topology = did.topology; guarantees = refl; users = refl; given = refl })
    (connections_took c.turn_connection-turn.result (topology_kept i.broker) c.as_slice.result.now i.users.items (broker_of i.broker) i.connections.items c.in-Some.place l c.turn_connection-turn.new.connection (broker_of c.turn_connection-turn.new.broker) c.sweep_after.new.connections.items
    c.as_slice.ensures.value place.0 here did.number did.kept c.sweep_after.ensures did.ok did.err did.awake did.more)

pub returns : goal.returns
returns c =
    let i = c.self.inside in
    let l = c.index_mut.result.now in
    let did = c.turn_connection-turn.ensures in
    let old : Parts = record { broker = i.broker; guarantees = i.guarantees.items; users = i.users.items; given = i.given; connections = i.connections.items } in
    let new : Parts = record { broker = c.turn_connection-turn.new.broker; guarantees = i.guarantees.items; users = i.users.items; given = i.given; connections = c.sweep_after.new.connections.items } in
    let place : IsConnectionIndex i.connections.items c.args.c (Some c.in-Some.place) = rw (← c.deref.ensures.value) c.in-Some.ensures.index in
    let here : get_or i.connections.items c.in-Some.place l ≡ l = sym c.index_mut.ensures.value in
    let connections = connections_took c.turn_connection-turn.result (topology_kept i.broker) c.as_slice.result.now i.users.items (broker_of i.broker) i.connections.items c.in-Some.place l c.turn_connection-turn.new.connection (broker_of c.turn_connection-turn.new.broker) c.sweep_after.new.connections.items
    c.as_slice.ensures.value place.0 here did.number did.kept c.sweep_after.ensures did.ok did.err did.awake did.more in
    let out = took old new c.args.c c.in-Some.place c.turn_connection-turn.result c.self.invariant (record { topology = did.topology; guarantees = refl; users = refl; given = refl }) place connections in
    record {
      ok = rw (← c.self.view_is) out.ok;
      fewer = rw (← c.self.view_is) out.fewer;
      err = rw (← c.self.view_is) out.err;
      awake = rw (← c.self.view_is) out.awake;
      more = rw (← c.self.view_is) out.more;
      turns = subst (λ (p : Parts). IfOk c.turn_connection-turn.result (λ t. TurnLeaves c.args.c ((world_of p).wire c.args.c) p.broker t c.turn_connection-turn.new.broker)) c.self.view_is
          (leaves_at c.turn_connection-turn.result old c.args.c c.in-Some.place (broker_of c.turn_connection-turn.new.broker) c.sweep_after.new.connections.items c.turn_connection-turn.new.broker c.self.invariant place connections
          (leaves_here c.turn_connection-turn.result i.connections.items c.in-Some.place l i.broker c.turn_connection-turn.new.broker place.0 here did.turns));
      broker = subst (λ (p : Parts). OnErr c.turn_connection-turn.result (c.turn_connection-turn.new.broker ≡ p.broker)) c.self.view_is did.broker_kept;
    }

pub returns-in_default : goal.returns-in_default
returns-in_default c =
    let i = c.self.inside in
    let old : Parts = record { broker = i.broker; guarantees = i.guarantees.items; users = i.users.items; given = i.given; connections = i.connections.items } in
    record { ok = rw (← c.self.view_is) (not_there old c.args.c (rw (← c.deref.ensures.value) c.in_default.ensures.index)); fewer = tt; err = tt; awake = tt; more = tt; turns = rw (← c.self.view_is) refl; broker = tt }
