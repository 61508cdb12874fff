-- The names that several files of these proofs use.
pub use Rattle.laws.proofs.Consistency.{awaits_consistent, consistent_same, loses_consistent, new_is_consistent, opens_consistent, pumps_consistent, reloads_consistent, takes_consistent, turns_consistent}
pub use Rattle.model.specs.Arrivals.{Delivers, Happens, Loses, Opens, Pauses, Plays, Puts, Reloads, Same, SameToCome, Seen, Shown, Shows, TakesOutput, Turns, Waits, Wire, Works, World, can_open, delivers, idles, is_ended, is_gone, is_over, is_paused, new_world, none_more, one_more, still, with_setup, waits, with_heard}
pub use Rattle.model.specs.Broker.{with_one}
pub use Rattle.model.specs.Commands.{Stream, stays}
pub use Rattle.model.specs.Headline.{IsSound}
pub use Rattle.model.specs.History.{IsDecided, Occurrence, Of_event, Of_reload, Reload, events_of, noted_at, notes_over}
pub use Rattle.model.specs.Phases.{Session, is_running, no_session, running_session}
pub use Rattle.model.specs.Reloading.{IsObstacle}
pub use Rattle.model.specs.Run.{Happening, notes_of, put_out}
pub use Rattle.model.specs.State.{Config, State}
pub use Rattle.model.specs.declared.events.Arrival.{Arrival}
pub use Rattle.model.specs.declared.notes.Note.{Note}
pub use Rattle.model.specs.declared.notes.Note.TheVariants.{ReloadRefused, Reloaded}
pub use Rattle.model.specs.declared.obstacles.Obstacle.{Obstacle}
pub use Rattle.runs.specs.Opened.{Did, DidNothing, Hears, Idles, IsLost, OpensNew, OpensReady, Pumped, TakesAway}
pub use Rattle.runs.specs.Reloaded.{IsPutInForce, ReportsWhyNot}
pub use Rattle.runs.specs.Runs.{AnswersAndRecords, IsRunOf, PlaysAndRecords, WorksAndRecords}
pub use Rattle.runs.specs.Recorded.{AreFinished, AreUnopened, Records, RecordsEvents, finished, gathered, gathered_at, taken_at, with_opened}
pub use Rattle.std.proofs.Common.{Bool, List, Option, [], ap, append-nil, append_assoc, arith, cond, drop, eq-eqb, eqb, false, get_or, inl, inr, length, map, ne_eqb, not, refl, slice_get, slice_set, subst, suc, sym, take, true, zero, ℕ, ◌++◌, ◌+◌, ◌-◌, ◌<◌, ◌∙◌, ◌∷◌, ◌≡◌, ◌≢◌, ◌≤◌}
pub use Rattle.std.proofs.lemmas.List.{map-append, take_more}
pub use Rattle.std.specs.Prelude.{Err, MatchBool, Ok, OnOk, Result, is_some, ◌&&◌, ◌==◌}
