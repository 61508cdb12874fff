-- The obstacle to what is offered, by its parts.
use Rattle.engine.proofs.Names.{◌≡◌, List, Option, subst, IfOk, OnErr, Guarantee, Config, Topology, Obstacle, Judges, JudgesOffered, Parts, world_of}
use Rattle.std.proofs.Common.{Result, Ok, Err}
use Rattle.reloading.specs.Allocating.{JudgingMayAllocate}
use Rattle.engine.specs.Allocating.{JudgingOfferMayAllocate}
use Rattle.commands.specs.Obstacles.{ReportsObstacle}
use Rattle.broker.specs.Turns.{topology_kept, broker_of}

-- what the broker tells of a topology and guarantees, it tells of what is offered with them
pub what_stands : {E : Type 0} (p : Parts) (t : Topology) (gs : List Guarantee) (offered : Config) (r : Result (Option Obstacle) E) → t ≡ offered.topology → gs ≡ offered.guarantees
    → IfOk r (ReportsObstacle (topology_kept p.broker) (broker_of p.broker) t gs) → IfOk r (JudgesOffered (world_of p) offered)
what_stands p t gs offered (Ok o) te ge reported = subst (λ (z : Config). Judges (topology_kept p.broker) z (broker_of p.broker) o) (λ i. record { topology = te i; guarantees = ge i; users = offered.users }) (reported offered.users)
what_stands p t gs offered (Err e) te ge reported = tt

-- and when judging it may fail to allocate
pub judging_may : {E : Type 0} (p : Parts) (t : Topology) (gs : List Guarantee) (offered : Config) (r : Result (Option Obstacle) E) → t ≡ offered.topology → gs ≡ offered.guarantees
    → OnErr r (JudgingMayAllocate (topology_kept p.broker) t gs (broker_of p.broker)) → OnErr r (JudgingOfferMayAllocate (world_of p) offered)
judging_may p t gs offered r te ge may = subst (λ (z : Config). OnErr r (JudgingOfferMayAllocate (world_of p) z)) (λ i. record { topology = te i; guarantees = ge i; users = offered.users }) may
