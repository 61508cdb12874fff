-- When judging a reload may fail to allocate (own).
use Rattle.std.specs.Prelude.{◌≡◌, ◌<◌, ℕ, List, Bool, length, Some, slice_get}
use Rattle.model.specs.Words.{Text}
use Rattle.model.specs.Topology.{Topology}
use Rattle.model.specs.Guarantee.{Guarantee}
use Rattle.model.specs.Broker.{Broker}
use Rattle.model.specs.Reloading.{NoneIsOrphaned, IsFirstOrphaned}
use Rattle.model.specs.declared.messages.Entry.{Entry}
use Rattle.model.specs.declared.obstacles.Obstacle.TheVariants.{InUse}
use Rattle.model.specs.declared.topologies.Mode.TheVariants.{Never}
use Rattle.reloading.specs.First.{ReportsFirst}
use Rattle.reloading.specs.LiveQueues.{ShowsQueues}
use Rattle.reloading.specs.Obstacles.{ReportsQueue}

-- a name of more than 22 bytes: putting it into a report may fail to allocate; a shorter one is copied without an allocation
abbrev pub IsLong : Text → Type 0
IsLong q = 22 < length q

-- Of the queues with these names, the first that is in use and that the new topology lacks has a long name.
pub record FirstIsLong (new : Topology) (names : List Text) (entries : ℕ → List Entry) (consumed : ℕ → Bool) : Type 0 where
  pub queue : Text
  pub first : ReportsFirst (ReportsQueue new entries consumed) names (Some (InUse queue))
  pub long : IsLong queue

-- One of the guarantees is a `never`.
pub record HasNever (gs : List Guarantee) : Type 0 where
  pub place : ℕ
  pub guarantee : Guarantee
  pub there : slice_get gs place ≡ Some guarantee
  pub never : guarantee.mode ≡ Never

-- When judging a reload to the new topology and guarantees may fail to allocate: if the new topology declares each queue in use and one of the guarantees
-- is a `never`, as what dead letters reach is explored then; or if the first queue in use that it lacks has a long name, which is copied.
pub data JudgingMayAllocate (old new : Topology) (gs : List Guarantee) (b : Broker) : Type 0 where
  explores : NoneIsOrphaned old new b → HasNever gs → JudgingMayAllocate old new gs b
  copies : (q : Text) → IsFirstOrphaned old new b q → IsLong q → JudgingMayAllocate old new gs b

-- judging may fail to allocate for each broker with these entries and consumers
abbrev pub JudgingQueuesMayAllocate : Topology → (ℕ → List Entry) → (ℕ → Bool) → Topology → List Guarantee → Type 0
JudgingQueuesMayAllocate old entries consumed new gs = (b : Broker) → ShowsQueues old entries consumed b → JudgingMayAllocate old new gs b
