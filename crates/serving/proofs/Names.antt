-- The names that several files of these proofs use.
pub use Rattle.laws.proofs.Consistency.{hears_consistent, linked, new_is_consistent, plays_consistent, same_consistent, takes_consistent, turns_consistent, waits_consistent}
pub use Rattle.laws.proofs.Counts.{all-append, in_back, in_front}
pub use Rattle.laws.proofs.Histories.{ToldOver, events-append, events-mapped, over-append, over_at, over_plays, over_told}
pub use Rattle.laws.specs.Reloading.{IsOffered}
pub use Rattle.model.specs.Arrivals.{Answers, ByEvents, Delivers, Loses, NoneCanDeliver, Opens, Plays, Pumps, Puts, Reloads, Same, Shows, TakesAndWorks, TakesOutput, Turns, Waits, Wire, Works, WorksOff, World, can_open, count_open, delivers, has_output, idles, is_awake, is_ended, is_gone, is_over, is_past_bound, is_paused, new_world, none_more, one_more, shown, with_heard}
pub use Rattle.model.specs.Broker.{with_one}
pub use Rattle.model.specs.Commands.{Stream, opened_stream}
pub use Rattle.model.specs.Consistent.{IsConsistent}
pub use Rattle.model.specs.Headline.{IsSound}
pub use Rattle.model.specs.History.{IsDecided, Occurrence, Of_event, events_of, notes_over}
pub use Rattle.model.specs.Phases.{Session, no_session, running_session}
pub use Rattle.model.specs.Run.{Happening, put_out}
pub use Rattle.model.specs.State.{Config, State}
pub use Rattle.model.specs.Topology.{IsIn}
pub use Rattle.model.specs.declared.events.Arrival.{Arrival}
pub use Rattle.runs.specs.Opened.{Did, Hears, Idles, IsLost, OpensNew, TakesAway, runs}
pub use Rattle.runs.specs.Wants.{Lacks, To_open, To_pump, To_reload}
pub use Rattle.serving.specs.Coming.{Attempt, Attempts, Brings, FallsShort, IsWhole, WorksPartly, short, whole}
pub use Rattle.serving.specs.Fit.{OthersStay, IsFit, StaysOrFrees, most_peers}
pub use Rattle.serving.specs.Joined.{AreBeginnings, AreCounted, AreJoined, IsJoined, all_met, amount_for, count_of, got_of, is_end_of, is_loss_of, is_short_for, met_by, piece_for, written_to}
pub use Rattle.serving.specs.Quiet.{AreLoud, AreQuiet, AreInSlots, IsMarkedAt, IsNextLoud, IsOther, IsQuiet, IsServerKept, Wakes, loud_bit}
pub use Rattle.serving.specs.Rounds.{HasEnded, IsRound, RestsUnless, Rounds, enough_output, most_pumps, read_of, reads_due, write_of, writes_due}
pub use Rattle.serving.specs.Story.{ArePumps, At, Deed, DoesDeed, Enters, Filled, Gave, Gave_nothing, Gave_partly, Gave_up, Heard, Heard_end, Heard_nothing, Heard_partly, IsFront, IsOffer, Leaves, Closed_gone, MayTurnAway, Met, Met_no_one, Passage, Paused, Pump_refused, Pumped_nothing, PumpsOnce, PumpsUp, Reload_decided, Reload_undecided, Served, Serves, Stays, Story, Table, TakesIn, Turned_away, attempts, grown_bytes, calls, grown, greeting, is_done, is_pump, is_unasked, passage_between, passage_of, served}
pub use Rattle.serving.specs.Whole.{GoesOn, IsOf, IsServed, TakesOn, arrivals_of, arrived, seen_after, seen_of}
pub use Rattle.serving.specs.Wire.{Accept_failed, Accepted, Ask, Call, Closed, Follows, Got, IsFresh, Not_accepted, Nothing_got, Nothing_taken, Farewell, Read_ended, Read_failed, Rested, AddsCalls, To_accept, To_read, To_write, Traffic, Took, Totals, Welcomed, Write_failed, ask, asks, is_failed, no_bytes, total_after, totals_after, with_got, with_taken}
pub use Rattle.serving.specs.declared.peers.Peer.{Peer}
pub use Rattle.std.proofs.Common.{Bool, List, None, Option, Some, [], ap, append-nil, append_assoc, arith, cond, count_by, drop, eqb, false, filter_map, flat_map, inl, inr, length, map, max, refl, replicate, slice_get, slice_index_or, slice_set, subst, suc, sym, take, true, zero, ℕ, ◌*◌, ◌++◌, ◌+◌, ◌-◌, ◌<◌, ◌∙◌, ◌∷◌, ◌≡◌, ◌≢◌, ◌≤◌, ◌⊎◌}
pub use Rattle.std.proofs.lemmas.Bool.{cases_eq, cases_lt, eq-eqb, eqb-false, eqb-true, false≢true, le-leb, le-ltb, leb-true, lt-leb, lt-ltb, ltb-false, ltb-true, ne_eqb}
pub use Rattle.std.proofs.lemmas.List.{drop_all, get_or-drop, get_or-set_other, get_or-set_same, get_or_default, get_or_past, length-replicate, length-set, length-take-le}
pub use Rattle.std.proofs.lemmas.List.Concat.{flat_map-append}
pub use Rattle.std.proofs.lemmas.List.Elements.{filter_map-append}
pub use Rattle.std.proofs.lemmas.List.Folds.{list_any-append}
pub use Rattle.std.proofs.lemmas.List.Sums.{sum_by-append}
pub use Rattle.std.proofs.lemmas.Option.{none-some, same_Some}
pub use Rattle.std.specs.List.{AllByRecursion, list_any}
pub use Rattle.std.specs.Prelude.{Err, MatchBool, Ok, OnErr, OnOk, Result, if◌then◌else◌, is_err, is_some, nat_le, nat_lt, sum_by, ◌&&◌, ◌==◌, ◌||◌}
