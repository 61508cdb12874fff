use Rattle.engine.proofs.Names.{refl, subst, ◌+◌, Some, err_from_is_err_and, opened_stream, IsOpened, Parts, world_of, OpenedNew}
use Rattle.model.specs.declared.events.Event.TheVariants as event
use Rattle.engine.proofs.Openings.{opens_new, refused_so}
use Rattle.engine.proofs.Tooks.{world_stays}
use Rattle.engine.proofs.engines.Engine.open.Goals as goal

pub returns-in_err-number-clause-opened : goal.returns-in_err-number-clause-opened
returns-in_err-number-clause-opened c =
    let i = c.self.inside in
    let old : Parts = record { broker = i.broker; guarantees = i.guarantees.items; users = i.users.items; given = i.given; connections = i.connections.items } in
    let new : Parts = record old { connections = c.next_number.new.connections.items } in
    let p = err_from_is_err_and c.from_residual.result c.from_residual.ensures.1 in
    subst (λ (z : Parts). OpenedNew (world_of z) c.from_residual.result (world_of new)) c.self.view_is
    (refused_so old new (event.Open (i.given + 1)) opened_stream c.from_residual.result p.0 c.in_err-number.field-0.0 p.1 p.2 c.self.invariant.connections c.in_err-number.ensures.numbers
    (world_stays old new (record { topology = refl; guarantees = refl; users = refl; given = refl }) refl c.in_err-number.ensures.same))

pub invariant_of-self-2 : goal.invariant_of-self-2
invariant_of-self-2 c =
    let i = c.self.inside in
    let old : Parts = record { broker = i.broker; guarantees = i.guarantees.items; users = i.users.items; given = i.given; connections = i.connections.items } in
    (opens_new old c.new.result c.in_ok-number.number c.next_number.new.connections.items c.push_reserved.new.self.items c.self.invariant c.in_ok-number.ensures.numbers c.in_ok-number.ensures.same c.push_reserved.ensures.items c.new.ensures).engine

pub returns-clause-opened : goal.returns-clause-opened
returns-clause-opened c =
    let i = c.self.inside in
    let old : Parts = record { broker = i.broker; guarantees = i.guarantees.items; users = i.users.items; given = i.given; connections = i.connections.items } in
    let done = opens_new old c.new.result c.in_ok-number.number c.next_number.new.connections.items c.push_reserved.new.self.items c.self.invariant c.in_ok-number.ensures.numbers c.in_ok-number.ensures.same c.push_reserved.ensures.items c.new.ensures in
    subst (λ (p : Parts). IsOpened (event.Open (p.given + 1)) opened_stream (world_of p) (Some c.in_ok-number.number) (world_of (record old { given = c.in_ok-number.number; connections = c.push_reserved.new.self.items }))) c.self.view_is done.opened

pub returns-in_err-number-clause-broker : goal.returns-in_err-number-clause-broker
returns-in_err-number-clause-broker c = rw (← c.self.view_is) refl

pub returns-clause-broker : goal.returns-clause-broker
returns-clause-broker c = rw (← c.self.view_is) refl
