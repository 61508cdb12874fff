use Rattle.engine.proofs.Names.{subst, Parts, world_of}
use Rattle.model.specs.Tracing.{AreKept, AreSafe, NoneSurvived}
use Rattle.laws.proofs.Keeping.{kept_are_safe}
use Rattle.engine.proofs.engines.Engine.ghost_is_safe.Goals as goal

pub returns-clause-kept : goal.returns-clause-kept
returns-clause-kept c = subst (λ (p : Parts). AreKept (world_of p).config (world_of p).state.broker) c.self.view_is c.self.invariant.consistent.kept

pub returns-clause-safe : goal.returns-clause-safe
returns-clause-safe c =
    let i = c.self.inside in
    let all : Parts = record { broker = i.broker; guarantees = i.guarantees.items; users = i.users.items; given = i.given; connections = i.connections.items } in
    subst (λ (p : Parts). NoneSurvived (world_of p).state.broker → AreSafe (world_of p).config.topology (world_of p).config.guarantees (world_of p).state.broker) c.self.view_is
    (kept_are_safe (world_of all).config (world_of all).state.broker c.self.invariant.consistent.kept)
