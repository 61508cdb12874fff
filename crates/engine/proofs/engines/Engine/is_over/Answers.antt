use Rattle.engine.proofs.Names.{Some, sym, ◌∙◌, Parts, IsConnectionIndex}
use Rattle.engine.proofs.Tooks.{over_at}
use Rattle.engine.proofs.engines.Engine.is_over.Goals as goal

pub returns-in-Some : goal.returns-in-Some
returns-in-Some c =
    let i = c.self.inside in
    let p : Parts = record { broker = i.broker; guarantees = i.guarantees.items; users = i.users.items; given = i.given; connections = i.connections.items } in
    let place : IsConnectionIndex i.connections.items c.args.c (Some c.in-Some.place) = rw (← c.deref.ensures.value) c.in-Some.ensures.index in
    rw (← c.self.view_is) (c.is_over.ensures.value ∙ sym (over_at p c.args.c c.in-Some.place c.index.result.now c.self.invariant place (sym c.index.ensures)))
