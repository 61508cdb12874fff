use Rattle.engine.proofs.Names.{ℕ, List, set, refl, sym, subst, CanDeliver, AreNamed, Same, Note, Kept, IsPick, WithTurn, Idles, Parts, world_of, HasConnection, IsPump, ServesOne, PicksOne, PicksNobody, Connection}
use Rattle.std.proofs.Common.{Ok, Err}
use Rattle.commands.specs.State.{topology_kept, broker_of}
use Rattle.engine.proofs.Asked.{on_err}
use Rattle.engine.proofs.Delivered.{picked_there, picked_engine, picked_none, pumped_at}
use Rattle.engine.proofs.Waiting.{picks_one, serves_one}
use Rattle.engine.proofs.engines.Engine.pump.Goals as goal

pub known_index-place-requires-clause-there : goal.known_index-place-requires-clause-there
known_index-place-requires-clause-there c =
    let i = c.self.inside in
    let old : Parts = record { broker = i.broker; guarantees = i.guarantees.items; users = i.users.items; given = i.given; connections = i.connections.items } in
    subst (λ (ls : List Connection). HasConnection ls c.in-Some.pick.connection) (sym c.deref.ensures.value) (picked_there old c.in-Some.pick.connection c.self.invariant c.in-Some.ensures.some.0)

pub pump_connection-requires-clause-picked : goal.pump_connection-requires-clause-picked
pump_connection-requires-clause-picked c = subst (λ (b : Kept). IsPick (broker_of b) c.in-Some.pick) (sym c.in-Some.ensures.kept) c.in-Some.ensures.some

pub pump_connection-requires-clause-named : goal.pump_connection-requires-clause-named
pump_connection-requires-clause-named c = subst (λ (b : Kept). AreNamed (topology_kept b) (broker_of b)) (sym c.in-Some.ensures.kept) c.self.invariant.named

pub invariant_of-self-in_err-notes : goal.invariant_of-self-in_err-notes
invariant_of-self-in_err-notes c =
    let i = c.self.inside in
    let old : Parts = record { broker = i.broker; guarantees = i.guarantees.items; users = i.users.items; given = i.given; connections = i.connections.items } in
    (pumped_at c.pump_connection.result (λ v. v.items) old c.pick.new.self c.pump_connection.new.broker c.in-Some.pick c.known_index-place.result c.index_mut.result.now c.pump_connection.new.connection
    c.self.invariant c.in-Some.ensures.kept c.pump_connection.ensures.topology c.in-Some.ensures.some.0 (rw (← c.deref.ensures.value) c.known_index-place.ensures.index) (sym c.index_mut.ensures.value)
    c.pump_connection.ensures.rest c.pump_connection.ensures.ok c.pump_connection.ensures.broker_kept c.pump_connection.ensures.output_kept).engine

pub invariant_of-self-2 : goal.invariant_of-self-2
invariant_of-self-2 c =
    let i = c.self.inside in
    let old : Parts = record { broker = i.broker; guarantees = i.guarantees.items; users = i.users.items; given = i.given; connections = i.connections.items } in
    (pumped_at c.pump_connection.result (λ v. v.items) old c.pick.new.self c.pump_connection.new.broker c.in-Some.pick c.known_index-place.result c.index_mut.result.now c.pump_connection.new.connection
    c.self.invariant c.in-Some.ensures.kept c.pump_connection.ensures.topology c.in-Some.ensures.some.0 (rw (← c.deref.ensures.value) c.known_index-place.ensures.index) (sym c.index_mut.ensures.value)
    c.pump_connection.ensures.rest c.pump_connection.ensures.ok c.pump_connection.ensures.broker_kept c.pump_connection.ensures.output_kept).engine

pub returns-in_err-notes-clause-err : goal.returns-in_err-notes-clause-err
returns-in_err-notes-clause-err c =
    let i = c.self.inside in
    let old : Parts = record { broker = i.broker; guarantees = i.guarantees.items; users = i.users.items; given = i.given; connections = i.connections.items } in
    let did = pumped_at {E = Unit {0}} (Err tt) (λ (v : List Note). v) old c.pick.new.self c.pump_connection.new.broker c.in-Some.pick c.known_index-place.result c.index_mut.result.now c.pump_connection.new.connection
    c.self.invariant c.in-Some.ensures.kept c.pump_connection.ensures.topology c.in-Some.ensures.some.0 (rw (← c.deref.ensures.value) c.known_index-place.ensures.index) (sym c.index_mut.ensures.value)
    c.pump_connection.ensures.rest tt c.in_err-notes.ensures.broker_kept c.in_err-notes.ensures.output_kept in
    on_err c.from_residual.result _ (subst (λ (p : Parts). Same (world_of p) (world_of (record old { broker = c.pump_connection.new.broker; connections = set i.connections.items c.known_index-place.result c.pump_connection.new.connection }))) c.self.view_is did.err)

pub returns-in_err-notes-clause-wanted : goal.returns-in_err-notes-clause-wanted
returns-in_err-notes-clause-wanted c =
    let i = c.self.inside in
    on_err c.from_residual.result _ (subst (λ (p : Parts). (d : ℕ) × CanDeliver (world_of p).state.broker d) c.self.view_is (c.in-Some.pick.connection, c.in-Some.ensures.some.0))

pub returns-in_err-notes-clause-picked : goal.returns-in_err-notes-clause-picked
returns-in_err-notes-clause-picked c =
    on_err c.from_residual.result _ (subst (λ (p : Parts). PicksOne p.broker c.pump_connection.new.broker) c.self.view_is
    (subst (λ (b : WithTurn). PicksOne c.self.inside.broker b) (sym c.in_err-notes.ensures.broker_kept)
    (picks_one c.self.inside.broker c.pick.new.self c.in-Some.pick c.in-Some.ensures.kept c.in-Some.ensures.in_turn c.in-Some.ensures.turn c.in-Some.ensures.again)))

pub returns-clause-ok : goal.returns-clause-ok
returns-clause-ok c =
    let i = c.self.inside in
    let old : Parts = record { broker = i.broker; guarantees = i.guarantees.items; users = i.users.items; given = i.given; connections = i.connections.items } in
    let notes = c.in_ok-notes.notes.items in
    let did = pumped_at {E = Unit {0}} (Ok notes) (λ (v : List Note). v) old c.pick.new.self c.pump_connection.new.broker c.in-Some.pick c.known_index-place.result c.index_mut.result.now c.pump_connection.new.connection
    c.self.invariant c.in-Some.ensures.kept c.pump_connection.ensures.topology c.in-Some.ensures.some.0 (rw (← c.deref.ensures.value) c.known_index-place.ensures.index) (sym c.index_mut.ensures.value)
    c.pump_connection.ensures.rest c.in_ok-notes.ensures.ok tt tt in
    subst (λ (p : Parts). IsPump (world_of p) c.in-Some.pick.connection notes (world_of (record old { broker = c.pump_connection.new.broker; connections = set i.connections.items c.known_index-place.result c.pump_connection.new.connection }))) c.self.view_is did.ok.pump

pub returns-clause-in_turn : goal.returns-clause-in_turn
returns-clause-in_turn c =
    let i = c.self.inside in
    let old : Parts = record { broker = i.broker; guarantees = i.guarantees.items; users = i.users.items; given = i.given; connections = i.connections.items } in
    let now : Parts = record old { broker = c.pump_connection.new.broker; connections = set i.connections.items c.known_index-place.result c.pump_connection.new.connection } in
    let notes = c.in_ok-notes.notes.items in
    let did = pumped_at {E = Unit {0}} (Ok notes) (λ (v : List Note). v) old c.pick.new.self c.pump_connection.new.broker c.in-Some.pick c.known_index-place.result c.index_mut.result.now c.pump_connection.new.connection
    c.self.invariant c.in-Some.ensures.kept c.pump_connection.ensures.topology c.in-Some.ensures.some.0 (rw (← c.deref.ensures.value) c.known_index-place.ensures.index) (sym c.index_mut.ensures.value)
    c.pump_connection.ensures.rest c.in_ok-notes.ensures.ok tt tt in
    subst (λ (p : Parts). ServesOne p c.in-Some.pick.connection notes now) c.self.view_is
    (serves_one old c.pick.new.self now c.in-Some.pick notes c.in-Some.ensures.kept c.in-Some.ensures.in_turn c.in-Some.ensures.turn c.in-Some.ensures.again did.ok
    c.in_ok-notes.ensures.later c.pump_connection.ensures.topology c.in_ok-notes.ensures.over c.in_ok-notes.ensures.soon)

pub invariant_of-self : goal.invariant_of-self
invariant_of-self c =
    let i = c.self.inside in
    let old : Parts = record { broker = i.broker; guarantees = i.guarantees.items; users = i.users.items; given = i.given; connections = i.connections.items } in
    picked_engine old c.pick.new.self c.in_default.ensures.kept c.self.invariant

pub returns-in_default-clause-ok : goal.returns-in_default-clause-ok
returns-in_default-clause-ok c =
    let i = c.self.inside in
    let old : Parts = record { broker = i.broker; guarantees = i.guarantees.items; users = i.users.items; given = i.given; connections = i.connections.items } in
    subst (λ (p : Parts). Idles (world_of p) (world_of (record old { broker = c.pick.new.self }))) c.self.view_is (picked_none old c.pick.new.self c.in_default.ensures.kept (c.in_default.ensures.none refl))

pub returns-in_default-clause-in_turn : goal.returns-in_default-clause-in_turn
returns-in_default-clause-in_turn c =
    subst (λ (p : Parts). PicksNobody p.broker c.pick.new.self) c.self.view_is (record { turn = c.in_default.ensures.turn; kept = c.in_default.ensures.kept; lines = c.in_default.ensures.stay refl })
