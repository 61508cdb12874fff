use Rattle.engine.proofs.Names.{refl, ap, subst, ◌+◌, Some, err_from_is_err_and, running_stream, IsOpened, Parts, world_of, OpenedReady, KeepsTurns}
use Rattle.model.specs.declared.events.Event.TheVariants as event
use Rattle.broker.specs.Turns.{broker_of}
use Rattle.engine.proofs.Openings.{opens_ready, refused_so, refused_memory}
use Rattle.engine.proofs.Tooks.{world_stays}
use Rattle.engine.proofs.Waiting.{turns_same, turns_if}
use Rattle.engine.proofs.engines.Engine.open_ready.Goals as goal

pub returns-in_err-number-clause-opened : goal.returns-in_err-number-clause-opened
returns-in_err-number-clause-opened c =
    let i = c.self.inside in
    let old : Parts = record { broker = i.broker; guarantees = i.guarantees.items; users = i.users.items; given = i.given; connections = i.connections.items } in
    let new : Parts = record old { connections = c.next_number.new.connections.items } in
    let p = err_from_is_err_and c.from_residual.result c.from_residual.ensures.1 in
    subst (λ (z : Parts). OpenedReady (world_of z) c.args.channels c.from_residual.result (world_of new)) c.self.view_is
    (refused_so old new (event.Running (i.given + 1) 255 c.args.channels) running_stream c.from_residual.result p.0 c.in_err-number.field-0.0 p.1 p.2 c.self.invariant.connections c.in_err-number.ensures.numbers
    (world_stays old new (record { topology = refl; guarantees = refl; users = refl; given = refl }) refl c.in_err-number.ensures.same))

pub returns-in_err-open-clause-opened : goal.returns-in_err-open-clause-opened
returns-in_err-open-clause-opened c =
    let i = c.self.inside in
    let old : Parts = record { broker = i.broker; guarantees = i.guarantees.items; users = i.users.items; given = i.given; connections = i.connections.items } in
    let new : Parts = record old { broker = c.open.new.self; connections = c.next_number.new.connections.items } in
    let p = err_from_is_err_and c.from_residual-in_err-open.result c.from_residual-in_err-open.ensures.1 in
    subst (λ (z : Parts). OpenedReady (world_of z) c.args.channels c.from_residual-in_err-open.result (world_of new)) c.self.view_is
    (refused_memory old new (event.Running (i.given + 1) 255 c.args.channels) running_stream c.from_residual-in_err-open.result p.0 c.in_ok-number.number p.1 p.2 c.self.invariant.connections c.in_ok-number.ensures.numbers
    (world_stays old new (record { topology = c.in_err-open.ensures.topology; guarantees = refl; users = refl; given = refl }) (ap broker_of c.in_err-open.ensures.err) c.in_ok-number.ensures.same))

pub invariant_of-self-2 : goal.invariant_of-self-2
invariant_of-self-2 c =
    let i = c.self.inside in
    let old : Parts = record { broker = i.broker; guarantees = i.guarantees.items; users = i.users.items; given = i.given; connections = i.connections.items } in
    (opens_ready old c.open.new.self c.running.result c.in_ok-number.number c.args.channels c.from.result c.next_number.new.connections.items c.push_reserved.new.self.items c.self.invariant
    c.in_ok-number.ensures.numbers c.in_ok-number.ensures.same c.push_reserved.ensures.items c.running.ensures c.open.ensures.topology c.from.ensures c.in_ok-open.ensures.ok).engine

pub returns-clause-opened : goal.returns-clause-opened
returns-clause-opened c =
    let i = c.self.inside in
    let old : Parts = record { broker = i.broker; guarantees = i.guarantees.items; users = i.users.items; given = i.given; connections = i.connections.items } in
    let done = opens_ready old c.open.new.self c.running.result c.in_ok-number.number c.args.channels c.from.result c.next_number.new.connections.items c.push_reserved.new.self.items c.self.invariant
    c.in_ok-number.ensures.numbers c.in_ok-number.ensures.same c.push_reserved.ensures.items c.running.ensures c.open.ensures.topology c.from.ensures c.in_ok-open.ensures.ok in
    subst (λ (p : Parts). IsOpened (event.Running (p.given + 1) 255 c.args.channels) running_stream (world_of p) (Some c.in_ok-number.number)
    (world_of (record old { broker = c.open.new.self; given = c.in_ok-number.number; connections = c.push_reserved.new.self.items }))) c.self.view_is done.opened

pub returns-in_err-number-clause-turns : goal.returns-in_err-number-clause-turns
returns-in_err-number-clause-turns c = rw (← c.self.view_is) (turns_same c.self.inside.broker)

pub returns-in_err-open-clause-turns : goal.returns-in_err-open-clause-turns
returns-in_err-open-clause-turns c = subst (λ (p : Parts). KeepsTurns p.broker c.open.new.self) c.self.view_is (turns_if c.self.inside.broker c.open.new.self c.in_err-open.ensures.err)

pub returns-clause-turns : goal.returns-clause-turns
returns-clause-turns c = subst (λ (p : Parts). KeepsTurns p.broker c.open.new.self) c.self.view_is
    (record { turn = c.open.ensures.turn; topology = c.open.ensures.topology; later = c.in_ok-open.ensures.later })
