use Rattle.engine.proofs.Names.{◌∙◌, subst, IfOk, OnErr, JudgesOffered, Parts, world_of}
use Rattle.engine.specs.Allocating.{JudgingOfferMayAllocate}
use Rattle.engine.proofs.Offered.{judging_may, what_stands}
use Rattle.engine.proofs.engines.Engine.obstacle.Goals as goal

pub returns-clause-reported : goal.returns-clause-reported
returns-clause-reported c =
    let i = c.self.inside in
    let all : Parts = record { broker = i.broker; guarantees = i.guarantees.items; users = i.users.items; given = i.given; connections = i.connections.items } in
    subst (λ (p : Parts). IfOk c.obstacle.result (JudgesOffered (world_of p) c.args.setup.now)) c.self.view_is
    (what_stands all c.topology.result.now c.guarantees.result.now c.args.setup.now c.obstacle.result (c.topology.ensures ∙ c.checked-checked.ensures.topology) (c.guarantees.ensures ∙ c.checked-checked.ensures.guarantees) c.obstacle.ensures.reported)

pub returns-clause-wants : goal.returns-clause-wants
returns-clause-wants c =
    let i = c.self.inside in
    let all : Parts = record { broker = i.broker; guarantees = i.guarantees.items; users = i.users.items; given = i.given; connections = i.connections.items } in
    subst (λ (p : Parts). OnErr c.obstacle.result (JudgingOfferMayAllocate (world_of p) c.args.setup.now)) c.self.view_is
    (judging_may all c.topology.result.now c.guarantees.result.now c.args.setup.now c.obstacle.result (c.topology.ensures ∙ c.checked-checked.ensures.topology) (c.guarantees.ensures ∙ c.checked-checked.ensures.guarantees) c.obstacle.ensures.wants)
