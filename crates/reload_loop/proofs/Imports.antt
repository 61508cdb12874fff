-- The names that several files of these proofs use.
pub use Rattle.engine.specs.Allocating.{MayAllocate}
pub use Rattle.engine.specs.World.{world_of}
pub use Rattle.model.specs.Arrivals.{Same, World, new_world}
pub use Rattle.model.specs.State.{Config}
pub use Rattle.model.specs.Words.{Text}
pub use Rattle.reload_loop.specs.Looks.{IsFaultReported, IsFound, IsFoundAgain, IsOffered, IsWhyNotPut, JudgesOffer, Looks, WasFound, done, refused, stopped, unchanged, wanting}
pub use Rattle.reload_loop.specs.Program.{AsksToServe, IsEvery, IsNotServe, ServesReloading, asked_by, names_in, reloading, reloads, serves, unserved, without}
pub use Rattle.reload_loop.specs.ServesOn.{ServesOn, ServesTelling, BetweenRounds, last, more, between_rounds}
pub use Rattle.reload_loop.specs.Snapshots.{AreHeld, IsReadFrom, Snap, known_in, names_of}
pub use Rattle.reload_loop.specs.Telling.{Carries, IsCarried, IsDue, IsSilent, Tells, Told, last_line, told_at, told_before, told_now, told_of}
pub use Rattle.reload_loop.specs.declared.found.Found.{Found}
pub use Rattle.scripts.specs.FileNames.{FileNames}
pub use Rattle.server.proofs.Beginning.{asked_once, asks_same, memory_reported}
pub use Rattle.server.specs.Files.{AreKept, Known}
pub use Rattle.server.specs.Streams.{OutputStream, change}
pub use Rattle.serving.specs.Story.{Served, served}
pub use Rattle.serving.specs.Whole.{IsServed}
pub use Rattle.std.proofs.Common.{Bool, Bor, Decides, List, None, Option, Some, [], ap, arith, false, inl, inr, is_ok, refl, subst, sym, ℕ, ◌&&◌, ◌∙◌, ◌≡◌}
pub use Rattle.std.specs.Prelude.{Err, IfNone, IfSome, Ok, option_map, ◌<◌, ◌≤◌, ◌+◌}
