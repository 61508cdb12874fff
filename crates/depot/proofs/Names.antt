-- The names that several files of these proofs use.
pub use Rattle.depot.specs.Dying.{ArePlanned, Death, EnterBelow, Extends, Foresees, ForeseesDeaths, ForeseesGiven, ForeseesLetters, ForeseesOutcomes, ForeseesTurns, ForeseesWaiting, IsDeathOf, IsForeseen, LettersAt, MayHaveLetters, Planned, Plans, PlansAt, Rejects, all_arrivals, all_left, all_notes, arrivals_in, arrived, arriving_at, death_notes, died, died_all, given_at, outcomes_of, so_far, without}
pub use Rattle.depot.specs.Givings.{CanGive, IsTakenFrom, ReturnsArrival, given_notes, given_so}
pub use Rattle.depot.specs.Marked.{ArePropertiesMarked, text_field}
pub use Rattle.depot.specs.Moving.{AreMoved, GoneAreEmpty, IsMoved, goes, stays, taken}
pub use Rattle.depot.specs.Purging.{IsPurgedBy}
pub use Rattle.depot.specs.Settled.{AreOf, AreSettledBy, IsHeldOnce, departure_in, left_at, returned_at, store_of}
pub use Rattle.depot.specs.Signs.{AreSignedBut, ReturnsNext, ready_bit, ready_places}
pub use Rattle.depot.specs.Store.{IsNextReady, IsStoreWhole, Store, entries_named, entries_of, queue_at, with_entries_at}
pub use Rattle.depot.specs.Turns.{AreEmptied, Enters, GainsNone, IsPlan, IsRoomy, LinesHaveRoom, MakesRoom, TurnOutcome, all_entered, arriving, entered_one, is_full_at, is_refusal, no_line, no_turns, notes_of_outcomes, outcome, outcome_at, outcome_of, outcomes, places, room_at, times, turn_at}
pub use Rattle.depot.specs.Tallies.{AreTallied, CountsTurn, DecidesTurn, arrivals_at, is_limited, taken_if, tally_at, tally_of}
pub use Rattle.depot.specs.declared.arrivals.Arrival.{Arrival}
pub use Rattle.depot.specs.declared.tallies.Tally.{Tally}
pub use Rattle.depot.specs.declared.turns.PlannedTurn.{PlannedTurn}
pub use Rattle.exchange_graph.specs.Marks.{queue_name}
pub use Rattle.exchange_graph.specs.Targets.{AreTargets, names_at}
pub use Rattle.marks.specs.Sets.{IsNextMark, bit_of}
pub use Rattle.model.specs.Broker.{is_full, is_ready, listed, queue_named, ready_bytes, refuses}
pub use Rattle.model.specs.Deaths.{AreMarked, DescribesDeath, DiesBy, DiesIn, MayDie, added, alone, dead_letter, death_exchange, death_queue, death_reason, first_death, marked_before}
pub use Rattle.model.specs.Deliveries.{AreRejected, Leaves, Returns, left_note, purge_notes, ready_in, with_queue}
pub use Rattle.model.specs.Entries.{freed, is_held_as, is_under, number_of, without_first}
pub use Rattle.model.specs.Message.{Message}
pub use Rattle.model.specs.Placed.{AreByTag, AreWithin, holder_of_delivery, is_waiting, outstanding_in, waiting}
pub use Rattle.model.specs.Reloading.{survived_now}
pub use Rattle.model.specs.Routing.{key_after}
pub use Rattle.model.specs.Topology.{AreDistinct, IsIn, IsWellFormed, Topology, queue_names}
pub use Rattle.model.specs.Words.{Text}
pub use Rattle.model.specs.declared.contents.Content.{Content}
pub use Rattle.model.specs.declared.deliveries.ChannelId.{ChannelId}
pub use Rattle.model.specs.declared.deliveries.Delivery.{Delivery}
pub use Rattle.model.specs.declared.messages.Entry.{Entry}
pub use Rattle.model.specs.declared.messages.Holder.{Holder}
pub use Rattle.model.specs.declared.messages.Mark.TheVariants.{Ready}
pub use Rattle.model.specs.declared.methods.Publish.{Publish}
pub use Rattle.model.specs.declared.notes.Cause.TheVariants.{Acked, Purged, Rejected}
pub use Rattle.model.specs.declared.notes.Note.{Note}
pub use Rattle.model.specs.declared.notes.Note.TheVariants.{Entered, Left, Published, Refused}
pub use Rattle.model.specs.declared.notes.Way.{Way}
pub use Rattle.model.specs.declared.topologies.DeclaredQueue.{DeclaredQueue}
pub use Rattle.queue.specs.Line.{Line, ready_count, requeued}
pub use Rattle.std.proofs.Common.{All, AllPairs, Bool, Bor, Err, IfOk, List, None, Ok, OnErr, OnOk, Option, Result, Some, [], ap, append_assoc, arith, codes, cond, drop, false, filter, get_or, inl, inr, length, map, refl, rules, set, subst, suc, sym, take, true, vec_capacity, vec_len, zero, ℕ, ◌*◌, ◌++◌, ◌+◌, ◌-◌, ◌<◌, ◌^◌, ◌∙◌, ◌∷◌, ◌≡◌, ◌≤◌, ◌⊎◌}
pub use Rattle.std.proofs.lemmas.Bool.{eqb-true, false≢true, ne_eqb}
pub use Rattle.std.proofs.lemmas.Bool.Decides.{eqb_tells, leb_tells}
pub use Rattle.std.proofs.lemmas.Grind.{common_steps}
pub use Rattle.std.proofs.lemmas.List.{append-nil, drop_all, drop_more, get_or-replicate, get_or-set_other, get_or-set_same, get_or_default, get_or_past, length-append, length-map, length-replicate, length-set, map-set, take_at, take_more}
pub use Rattle.std.proofs.lemmas.Slice.Eq.{bytes_eq-Decides}
pub use Rattle.std.specs.List.{list_any, position_or_len}
pub use Rattle.std.specs.Prelude.{count_by, nat_lt, slice_get, ◌&&◌, ◌||◌}
pub use Rattle.std.specs.Str.{bytes_eq}
