-- The names that several files of these proofs use.
pub use Rattle.memory_wire.specs.Logs.{call_of, logged_calls, traffic_with}
pub use Rattle.memory_wire.specs.declared.logs.Log.{Log}
pub use Rattle.serving.specs.Answered.{accept_call, read_call, write_call}
pub use Rattle.serving.specs.Joined.{written_to}
pub use Rattle.serving.specs.Story.{Served, calls, served}
pub use Rattle.serving.specs.Wire.{Accepted, Call, Closed, Follows, Farewell, Rested, AddsCalls, Traffic, Welcomed, is_failed}
pub use Rattle.std.proofs.Common.{Bool, List, None, Option, Some, [], ap, arith, count_by, drop, false, flat_map, if◌then◌else◌, inl, inr, length, map, refl, subst, sym, true, ℕ, ◌++◌, ◌+◌, ◌<◌, ◌∙◌, ◌∷◌, ◌≡◌, ◌≤◌}
