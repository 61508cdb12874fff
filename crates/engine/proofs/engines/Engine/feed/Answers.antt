use Rattle.engine.proofs.Names.{◌≡◌, get_or, set, length, refl, sym, Some, Parts, IsConnectionIndex}
use Rattle.engine.proofs.Swept.{connections_fed, connections_err, connections_over, connections_full}
use Rattle.engine.proofs.Tooks.{fed_engine, fed_ok, fed_err, fed_over, fed_full, hears_none}
use Rattle.engine.proofs.engines.Engine.feed.Goals as goal

pub invariant_of-self : goal.invariant_of-self
invariant_of-self c =
    let i = c.self.inside in
    let l = c.index_mut.result.now in
    let fed = c.feed_connection.ensures in
    let place : IsConnectionIndex i.connections.items c.args.c (Some c.in-Some.place) = rw (← c.deref.ensures.value) c.in-Some.ensures.index in
    let here : get_or i.connections.items c.in-Some.place l ≡ l = sym c.index_mut.ensures.value in
    fed_engine c.feed_connection.result (record { broker = i.broker; guarantees = i.guarantees.items; users = i.users.items; given = i.given; connections = i.connections.items }) _ c.in-Some.place c.args.bytes.now c.self.invariant
    (record { topology = refl; guarantees = refl; users = refl; given = refl }) refl (connections_fed c.feed_connection.result i.connections.items c.in-Some.place c.args.bytes.now l c.feed_connection.new.connection place.0 here fed.ok)
    (connections_err c.feed_connection.result i.connections.items c.in-Some.place l c.feed_connection.new.connection here fed.err)

pub returns-in-Some : goal.returns-in-Some
returns-in-Some c =
    let i = c.self.inside in
    let l = c.index_mut.result.now in
    let fed = c.feed_connection.ensures in
    let ls = set i.connections.items c.in-Some.place c.feed_connection.new.connection in
    let old : Parts = record { broker = i.broker; guarantees = i.guarantees.items; users = i.users.items; given = i.given; connections = i.connections.items } in
    let new : Parts = record old { connections = ls } in
    let place : IsConnectionIndex i.connections.items c.args.c (Some c.in-Some.place) = rw (← c.deref.ensures.value) c.in-Some.ensures.index in
    let here : get_or i.connections.items c.in-Some.place l ≡ l = sym c.index_mut.ensures.value in
    record {
      ok = rw (← c.self.view_is) (fed_ok c.feed_connection.result old new c.args.c c.in-Some.place c.args.bytes.now c.self.invariant (record { topology = refl; guarantees = refl; users = refl; given = refl }) refl place
          (connections_fed c.feed_connection.result i.connections.items c.in-Some.place c.args.bytes.now l c.feed_connection.new.connection place.0 here fed.ok));
      over = rw (← c.self.view_is) (fed_over c.feed_connection.result old ls c.args.c c.in-Some.place c.self.invariant place (connections_over c.feed_connection.result i.connections.items c.in-Some.place l c.feed_connection.new.connection place.0 here fed.over));
      err = rw (← c.self.view_is) (fed_err c.feed_connection.result old ls (connections_err c.feed_connection.result i.connections.items c.in-Some.place l c.feed_connection.new.connection here fed.err));
      full = rw (← c.self.view_is) (fed_full c.feed_connection.result old c.args.c c.in-Some.place (length c.args.bytes.now) c.self.invariant place
          (connections_full c.feed_connection.result i.connections.items c.in-Some.place (length c.args.bytes.now) l place.0 here fed.full));
      broker = rw (← c.self.view_is) refl;
    }

pub returns-in-None : goal.returns-in-None
returns-in-None c =
    let i = c.self.inside in
    let old : Parts = record { broker = i.broker; guarantees = i.guarantees.items; users = i.users.items; given = i.given; connections = i.connections.items } in
    record { ok = rw (← c.self.view_is) (hears_none old c.args.c c.args.bytes.now (rw (← c.deref.ensures.value) c.in-None.ensures.index)); over = λ is. (refl, refl); err = tt; full = tt; broker = refl }
