-- The names that several files of these proofs use.
pub use Rattle.laws.proofs.Counts.{in_from_contains}
pub use Rattle.model.specs.Guarantee.{Guarantee}
pub use Rattle.model.specs.Message.{Message}
pub use Rattle.model.specs.Reloading.{Endangers, IsBefore, IsDanger, IsInUse, IsObstacle, NoneIsOrphaned, HasNoObstacle, Spot, by_consumer, by_entry}
pub use Rattle.model.specs.Routing.{Comes, Dies, Later, Reading, RoutesBy, dead, fixed_after, key_after, of_key, reading_after, routed}
pub use Rattle.model.specs.State.{Config}
pub use Rattle.model.specs.Topology.{AreDistinct, IsIn, IsWellFormed, Topology, queue_names}
pub use Rattle.model.specs.Words.{Text}
pub use Rattle.model.specs.declared.messages.Entry.{Entry}
pub use Rattle.model.specs.declared.obstacles.Obstacle.{Obstacle}
pub use Rattle.model.specs.declared.obstacles.Obstacle.TheVariants.{Breaks, InUse}
pub use Rattle.model.specs.declared.topologies.DeclaredQueue.{DeclaredQueue}
pub use Rattle.paths.specs.Leading.{AreLeading}
pub use Rattle.reloading.specs.First.{IsReportedFirst, ReportsFirst, ReportsNoneBelow}
pub use Rattle.reloading.specs.Forbidding.{AreForbidding, EndangersBelow, IsExploredFor, IsFixedFor, IsForbidding, NoneForbids, NoneMay, ReturnsLeast}
pub use Rattle.reloading.specs.Narrowing.{EndsAt, EntriesReport, ReportsMessage, QueuesReport, ReportsBelow, bound_of, joined, obstacle_of}
pub use Rattle.reloading.specs.Obstacles.{EndangersNone, IsUsed, Judges, ReportsEntries, ReportsEntry, ReportsQueue, ReportsQueues, ReportsUse}
pub use Rattle.reloading.specs.declared.danger.Danger.{Danger}
pub use Rattle.reloading.specs.Passed.{kept}
pub use Rattle.std.proofs.Common.{Bool, Err, List, None, Ok, Option, Result, Some, [], ap, append_assoc, arith, false, get_or, inl, inr, length, length-append, refl, rules, set, subst, suc, sym, true, zero, ℕ, ◌++◌, ◌+◌, ◌<◌, ◌∙◌, ◌∷◌, ◌≡◌, ◌≤◌, ◌⊎◌}
pub use Rattle.std.proofs.lemmas.Bool.{false≢true}
pub use Rattle.std.proofs.lemmas.Result.{IfOk-weaker}
pub use Rattle.std.specs.Prelude.{Decides, IfOk, OnErr, is_some, slice_get}
