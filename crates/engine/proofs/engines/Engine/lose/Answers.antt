use Rattle.engine.proofs.Names.{refl, subst, Some, Parts, IsConnectionIndex, KeepsTurns}
use Rattle.engine.proofs.Tooks.{loses, loses_engine}
use Rattle.engine.proofs.Waiting.{turns_same}
use Rattle.engine.proofs.engines.Engine.lose.Goals as goal

pub invariant_of-self : goal.invariant_of-self
invariant_of-self c =
    let i = c.self.inside in
    let place : IsConnectionIndex i.connections.items c.args.c (Some c.in-Some.place) = rw (← c.deref.ensures.value) c.in-Some.ensures.index in
    loses_engine (record { broker = i.broker; guarantees = i.guarantees.items; users = i.users.items; given = i.given; connections = i.connections.items }) _ c.args.c c.in-Some.place c.self.invariant
    (record { topology = c.lose.ensures.topology; guarantees = refl; users = refl; given = refl }) place c.remove_lost.ensures.left c.lose.ensures.acts

pub returns-in-Some-clause-lost : goal.returns-in-Some-clause-lost
returns-in-Some-clause-lost c =
    let i = c.self.inside in
    let old : Parts = record { broker = i.broker; guarantees = i.guarantees.items; users = i.users.items; given = i.given; connections = i.connections.items } in
    let place : IsConnectionIndex i.connections.items c.args.c (Some c.in-Some.place) = rw (← c.deref.ensures.value) c.in-Some.ensures.index in
    let new : Parts = record { broker = c.lose.new.self; guarantees = i.guarantees.items; users = i.users.items; given = i.given; connections = c.remove_lost.new.connections.items } in
    rw (← c.self.view_is) (loses old new c.args.c c.in-Some.place c.self.invariant (record { topology = c.lose.ensures.topology; guarantees = refl; users = refl; given = refl }) place c.remove_lost.ensures.left c.lose.ensures.acts)

pub returns-in-Some-clause-turns : goal.returns-in-Some-clause-turns
returns-in-Some-clause-turns c = subst (λ (p : Parts). KeepsTurns p.broker c.lose.new.self) c.self.view_is
    (record { turn = c.lose.ensures.turn; topology = c.lose.ensures.topology; later = c.lose.ensures.later })

pub returns-in_default-clause-turns : goal.returns-in_default-clause-turns
returns-in_default-clause-turns c = rw (← c.self.view_is) (turns_same c.self.inside.broker)
