use Rattle.engine.proofs.Names.{refl, sym, subst, Some, Parts, IsConnectionIndex, KeepsTurns}
use Rattle.broker.specs.Turns.{topology_kept, broker_of}
use Rattle.engine.proofs.Swept.{connections_sent}
use Rattle.engine.proofs.Tooks.{sends, sends_engine}
use Rattle.engine.proofs.Waiting.{turns_same}
use Rattle.engine.proofs.engines.Engine.sent.Goals as goal

pub invariant_of-self : goal.invariant_of-self
invariant_of-self c =
    let i = c.self.inside in
    let l = c.index_mut.result.now in
    let place : IsConnectionIndex i.connections.items c.args.c (Some c.in-Some.place) = rw (← c.deref.ensures.value) c.in-Some.ensures.index in
    sends_engine (record { broker = i.broker; guarantees = i.guarantees.items; users = i.users.items; given = i.given; connections = i.connections.items }) _ c.in-Some.place c.args.n c.self.invariant
    (record { topology = c.take_from.ensures.topology; guarantees = refl; users = refl; given = refl })
    (connections_sent (topology_kept i.broker) (broker_of i.broker) i.connections.items c.in-Some.place c.args.n l c.take_from.new.connection (broker_of c.take_from.new.broker) c.sweep.new.connections.items place.0 (sym c.index_mut.ensures.value) c.sweep.ensures c.take_from.ensures.sent)

pub returns-clause-taken : goal.returns-clause-taken
returns-clause-taken c =
    let i = c.self.inside in
    let l = c.index_mut.result.now in
    let old : Parts = record { broker = i.broker; guarantees = i.guarantees.items; users = i.users.items; given = i.given; connections = i.connections.items } in
    let place : IsConnectionIndex i.connections.items c.args.c (Some c.in-Some.place) = rw (← c.deref.ensures.value) c.in-Some.ensures.index in
    let new : Parts = record { broker = c.take_from.new.broker; guarantees = i.guarantees.items; users = i.users.items; given = i.given; connections = c.sweep.new.connections.items } in
    rw (← c.self.view_is) (sends old new c.args.c c.in-Some.place c.args.n c.self.invariant (record { topology = c.take_from.ensures.topology; guarantees = refl; users = refl; given = refl }) place
    (connections_sent (topology_kept i.broker) (broker_of i.broker) i.connections.items c.in-Some.place c.args.n l c.take_from.new.connection (broker_of c.take_from.new.broker) c.sweep.new.connections.items place.0 (sym c.index_mut.ensures.value) c.sweep.ensures c.take_from.ensures.sent))

pub returns-clause-turns : goal.returns-clause-turns
returns-clause-turns c = subst (λ (p : Parts). KeepsTurns p.broker c.take_from.new.broker) c.self.view_is
    (record { turn = c.take_from.ensures.turn; topology = c.take_from.ensures.topology; later = c.take_from.ensures.later })

pub returns-in_default-clause-turns : goal.returns-in_default-clause-turns
returns-in_default-clause-turns c = rw (← c.self.view_is) (turns_same c.self.inside.broker)
