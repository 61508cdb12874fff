-- The names that several files of these proofs use.
pub use Rattle.laws.specs.Accounts.{AccountsRefuse, DeliveriesAreAccountedFor, Lasts, acknowledging, gets_one, holding, left_behind, over_audit, purges_all, quiet_event, requeueing, taken_entry}
pub use Rattle.laws.specs.Agreeing.{AgreementRefuses, BrokersStayAgreed, broker_of_taken, first_held, taken, with_taken}
pub use Rattle.laws.specs.Carrying.{MessagesStayCarried, SendsAreOwn}
pub use Rattle.laws.specs.Consumers.{ConsumersAreMade, ConsumersStayNamed, DeliveriesAreAddressed, IsMadeBy, IsWorldNamed, NextTagsAreFound, PlaysStayNamed, WasConsumer, WorldsStayNamed}
pub use Rattle.laws.specs.Openings.{AreToCome, OpeningsReadByPhase, ReadsByPhase, is_first, is_header}
pub use Rattle.laws.specs.Order.{GivenAfterThoseAhead, GivenInOrder, HeldAreGiven, MarksAreGiven}
pub use Rattle.laws.specs.Promises.{AreSaid, AreSound, InForce, IsBegun, ack_of, ack_sent, config_after, nack_of, nack_sent}
pub use Rattle.laws.specs.Reloading.{AreOffered, HistoriesKeep, IsOffered, KeepsOn, OfferSound}
pub use Rattle.laws.specs.Rows.{BadEnd, FirstConsumer, FirstInput, FirstOutput, FullQueues, HeadlineRefuses, RefusedConsumes, TooLargeContent, WordsOfKeys, audit_to_bin, bad_end, bin, consumer_under, consuming_under, event_of_notes, first_ack, first_acked, first_entry, first_published, first_sent, forbids, into_bin, multiple_ack, no_content, notes_without_entry, one_event, refused_reload, reload_into_bin, reload_of_none, second_entry, select_ok, somebody, under, vanishing, wanted, with_audit, with_entries}
pub use Rattle.laws.specs.Streams.{CommandUnder, FirstBytesComeFirst, ReadsFrames, ReadsHead, YieldsAll, YieldsTuned, is_head}
pub use Rattle.laws.specs.Tracing.{KeptAreSafe, MessagesStayKept, MessagesStayTraced, NoEventMarks, ReloadsKeep, TracedAreSafe}
pub use Rattle.model.specs.Acks.{EnteredOnce, HasAcksOf, IsReading, ack_for, ack_in, acked, acked_as, acked_at, acks_in, first_bit, is_ack_of, is_publish_into}
pub use Rattle.model.specs.Agreement.{IsAgreed, IsHeld, IsOutstanding}
pub use Rattle.model.specs.Allowed.{AreAllowed, AreAllowedIn, IsAllowed, IsNoted, WasSentTo}
pub use Rattle.model.specs.Alone.{ArePresent, ChangesOwnAlone, event_connection}
pub use Rattle.model.specs.Arrivals.{Answers, Delivers, Happens, IsSaid, Loses, Opens, Pauses, Plays, Pumps, Puts, Reads, Reloads, Same, SameToCome, Seen, Shown, Shows, TakesAndWorks, TakesOutput, Turns, Waits, Wire, Works, WorksOff, World, again, can_open, delivers, event_of, fault, fresh, idles, is_ended, is_gone, is_over, is_past_bound, is_paused, new_wire, new_world, none_more, one_more, shown, still, under_session, waits, wire_after, with_heard}
pub use Rattle.model.specs.Broker.{Broker, Channel, Connection, Consumer, Outstanding, body_bytes, is_full, is_ready, new_channel, queue_named, ready_bytes, refuses, with_one, with_pair, with_row}
pub use Rattle.model.specs.Causes.{DiesAt, HasCause, HasOrigin, HaveCauses, HaveOrigins, IsCauseAt, IsCauseIn, IsPublishedAt, WasGiven}
pub use Rattle.model.specs.Commands.{Commands, Drops, Ends, GoesOn, Goes_on, HasWithin, IsWithin, Nothing, Pending, Stream, Taken, Takes, TakesFirst, TakesOn, TakesPayload, TakesSized, Wants_body, Wants_header, Yields, awaited, begun_body, beyond, broken, early, faulty, first, goes, heard, is_on_wrong_channel, is_too_large, keeping, later, no_publish, now, opened_stream, running_stream, short, stays, taken_body, taken_dropped, taken_header, taken_heartbeat, taken_method, taken_piece, with_max}
pub use Rattle.model.specs.Consistent.{IsConsistent}
pub use Rattle.model.specs.Consuming.{consumer_of, has_no_tag_left, is_in_use, is_tag_taken, is_tagged, next_free, server_tag, tag_for, with_consumer, without_consumer}
pub use Rattle.model.specs.Contents.{AreSourced, HasSource, HaveSources, IsContentOf, IsOfPublish, WasPublished, after_death, as_published, content_in, given_out, sent_back}
pub use Rattle.model.specs.Deaths.{AreMarked, DescribesDeath, DiesBy, DiesIn, IsDeath, IsFieldOf, IsUnmarked, MayDie, added, alone, dead_letter, death_exchange, death_queue, death_reason, first_death, marked_before, with_headers}
pub use Rattle.model.specs.Deliveries.{AreLeft, AreRejected, AreReturned, AreSettled, Leaves, Rejects, Returns, Settlement, after_delivery, after_giving, after_purge, channel_after, delivery_notes, first_ready, given_in, holder_of, left_note, of_rejected, outstanding_after, purge_notes, ready_in, with_queue, with_returned, without_given}
pub use Rattle.model.specs.Entries.{by_channel, by_connection, change_first, freed, freed_now, held_as, is_held_as, is_under, number_of, without_first}
pub use Rattle.model.specs.Frames.{Begins, Frame, IsBroken, IsFrame, frame_bytes}
pub use Rattle.model.specs.Fresh.{EndsFresh, EnterFresh, MarksWhatWasGiven, WasGivenOut}
pub use Rattle.model.specs.Grammar.{Ids, IsMethod, ids_of, method_bytes, octet}
pub use Rattle.model.specs.Guarantee.{Covers, CoversKey, Guarantee, Holds, Keeps}
pub use Rattle.model.specs.Headers.{AreProperties, Header, IsValue, header_bytes, no_properties, table_of, value_of}
pub use Rattle.model.specs.Headline.{IsSound, KeepsEvents, KeepsPromises}
pub use Rattle.model.specs.History.{History, IsDecided, IsRefused, LeavesQueues, NoneDone, Occurrence, Of_event, Of_reload, Reload, StaysOver, events_of, in_force_after, notes_over, reloads_of, state_after}
pub use Rattle.model.specs.Letters.{AreRejections, DieAsRouted, DieOnce, DiesInto, IsOfNoRejection, Rejection, is_dead_into, is_rejected, next, rejection_notes}
pub use Rattle.model.specs.LoggedIn.{ComesIn, EntersByLogin, is_past_login}
pub use Rattle.model.specs.Message.{Message}
pub use Rattle.model.specs.Nacks.{HasNacks, Nack, is_nack_of, nack_as, nack_in, nacks_at, nacks_in, nacks_of}
pub use Rattle.model.specs.Naming.{AreNamed, AreNamedOn, IsGivenBelow}
pub use Rattle.model.specs.Noted.{IsConfirmedIf, IsConfirmedUnder, PublishesAreTaken, TakesPublish}
pub use Rattle.model.specs.Opening.{IsAnswered, LogsIn, MovesInOpening, answers_with, at_open, at_start, at_tune, closes_with, first_move, is_taken, new_session, on_zero, open_ok, opening_move, or_closed, start, tune, tuned}
pub use Rattle.model.specs.Order.{FirstGiven, Gives, GivesInOrder, GivesOut, IsHeldSince, IsNext, IsPart, before, by_it, empty, ended, entered, entered_by, given, is_fresh, passed, skips, to_consumer, to_get, waiting}
pub use Rattle.model.specs.Phases.{Move, Session, after_method, after_sends, faulted, is_running, no_session, running_session, stays_in, to_phase, while_closing}
pub use Rattle.model.specs.Reloading.{IsObstacle, HasNoObstacle, by_consumer, by_entry, survived_now, with_all_survived}
pub use Rattle.model.specs.Routed.{CountUp, EnterAsRouted, EntersAsRouted, Said, bytes_into, is_entry_into, is_full_after, is_said_into, note_at, number_in, with_size, with_sizes}
pub use Rattle.model.specs.Routing.{Comes, Dies, Edge, Later, Leads, Picks, Reading, Routes, RoutesBy, alternate, bound, dead, default, fixed_after, here, key_after, of_key, on, pass, reading_after, routed}
pub use Rattle.model.specs.Run.{AreCounted, Balances, Happening, Run, Stays, empty_broker, empty_state, has_number, is_entered, is_left, notes_of, put_out, sends_of}
pub use Rattle.model.specs.Sending.{AreCarried, AreOwn, HasStored, IsAddressed, IsCarried, IsOwn, IsStored, most_sent}
pub use Rattle.model.specs.Settled.{AreSettledSo, HasLeft, IsAccountedFor, IsOutstandingOn, IsReadyAgain, IsSettledSo, NoneIsForgotten, SettlesAsAsked, Settling, has_left, outstanding_still, ready_again, settling_of}
pub use Rattle.model.specs.Settling.{Rises, is_refused, settled}
pub use Rattle.model.specs.Spelling.{IsSpelled, body_frame, content_frames, eight_bytes, frames_of, method_frame, pieces_of, receiver, send_bytes, sends_to, spelling}
pub use Rattle.model.specs.State.{AnswersBy, Config, Moves, OfCommand, OfFault, OfFirst, OfLarge, State, Step}
pub use Rattle.model.specs.Step.{Acts, Does, Gets, Ignored, Is, IsDelivery, IsPublish, Of_channel, Of_connection, OnConnection, OnLarge, Performs, Refusal, Refuses, Settles, answer_of, channel_or_new, channels_up_to, confirm_method, confirm_notes, confirm_sends, consume_sends, content_or_none, empty_publish, entry_note, greatest, is_awaiting, is_none, is_some_full, message, next_of, opened, or_else, paused, purge_sends, refusal, refusal_in, refusal_of_asking, refusal_of_consume, refusal_of_large, refusal_of_many, refusal_of_tag, reply, return_of, returned_notes, returned_sends, tag_of, with_channel, with_freed, with_gone}
pub use Rattle.model.specs.Tables.{ArePairs, HavePairsSpelling, IsTable, Long_string, Pairs, content, letter, no_pairs, pair, pairs_bytes}
pub use Rattle.model.specs.Topology.{AreDistinct, IsIn, IsThere, IsWellFormed, Topology, queue_names}
pub use Rattle.model.specs.Tracing.{AreKept, AreSafe, AreSentAlike, AreTraced, HasCome, HasComeTo, MayBeIn, NoneSurvived, by_death, by_publish}
pub use Rattle.model.specs.Unrefused.{GetsAreAnswered, GivesOrIsEmpty, IsUnrefused, PurgesLeaveNone}
pub use Rattle.model.specs.Words.{Matches, Text, any_more, any_none, one, onto_first, pieces, word, words}
pub use Rattle.model.specs.declared.contents.Content.{Content}
pub use Rattle.model.specs.declared.events.Arrival.{Arrival}
pub use Rattle.model.specs.declared.events.Command.TheVariants.{Full, Head, Plain}
pub use Rattle.model.specs.declared.events.Event.{Event}
pub use Rattle.model.specs.declared.events.Event.TheVariants.{Deliver, Fault, First, Lose, Open, Pause, Resume, Running}
pub use Rattle.model.specs.declared.events.Phase.{Phase}
pub use Rattle.model.specs.declared.events.Send.{Send}
pub use Rattle.model.specs.declared.messages.Entry.{Entry}
pub use Rattle.model.specs.declared.messages.Holder.{Holder}
pub use Rattle.model.specs.declared.messages.Mark.{Mark}
pub use Rattle.model.specs.declared.messages.Mark.TheVariants.{Held, Ready}
pub use Rattle.model.specs.declared.messages.Taker.{Taker}
pub use Rattle.model.specs.declared.messages.User.{User}
pub use Rattle.model.specs.declared.methods.Consume.{Consume}
pub use Rattle.model.specs.declared.methods.Get.{Get}
pub use Rattle.model.specs.declared.methods.Method.{Method}
pub use Rattle.model.specs.declared.methods.Method.TheVariants.{BasicAck, BasicCancel, BasicCancelOk, BasicConsume, BasicConsumeOk, BasicDeliver, BasicGet, BasicGetEmpty, BasicGetOk, BasicNack, BasicPublish, BasicQos, BasicQosOk, BasicRecover, BasicRecoverOk, BasicReject, BasicReturn, ChannelClose, ChannelCloseOk, ChannelFlow, ChannelFlowOk, ChannelOpen, ChannelOpenOk, ConfirmSelect, ConfirmSelectOk, ConnectionClose, ConnectionCloseOk, ConnectionOpen, ConnectionOpenOk, ConnectionStart, ConnectionStartOk, ConnectionTune, ConnectionTuneOk, ExchangeDeclare, ExchangeDeclareOk, QueueDeclare, QueueDeclareOk, QueuePurge, QueuePurgeOk}
pub use Rattle.model.specs.declared.notes.Answer.{Answer}
pub use Rattle.model.specs.declared.notes.Cause.{Cause}
pub use Rattle.model.specs.declared.notes.Cause.TheVariants.{Auto, Purged, Rejected}
pub use Rattle.model.specs.declared.notes.Note.{Note}
pub use Rattle.model.specs.declared.notes.Note.TheVariants.{Confirmed, Entered, Left, Published, Refused, ReloadRefused, Reloaded, Returned}
pub use Rattle.model.specs.declared.notes.Way.{Way}
pub use Rattle.model.specs.declared.notes.Way.TheVariants.{Dead}
pub use Rattle.model.specs.declared.texts.Token.{Token}
pub use Rattle.model.specs.declared.texts.Token.TheVariants.{Any, One, Word}
pub use Rattle.model.specs.declared.topologies.DeclaredQueue.{DeclaredQueue}
pub use Rattle.model.specs.declared.topologies.Mode.{Mode}
pub use Rattle.model.specs.declared.topologies.Mode.TheVariants.{Never, Reaches}
pub use Rattle.std.proofs.Common.{Bool, Err, List, None, Ok, Result, T, [], ap, append-nil, append_assoc, arith, cond, eqb, eqb→eq, false, get_or, inl, inr, length, length-append, lit≤, refl, rules, subst, suc, sym, true, zero, ℕ, ◌%◌, ◌*◌, ◌++◌, ◌-◌, ◌^◌, ◌∙◌, ◌∷◌, ◌≡◌, ◌≢◌, ◌≤◌, ◌⊎◌}
pub use Rattle.std.proofs.Math.Bool.{and-false, and-true}
pub use Rattle.std.proofs.lemmas.Bool.{eq-eqb, eqb-false, eqb-true, false≢true, leb-false, leb-true, ne_eqb, or_parts}
pub use Rattle.std.proofs.lemmas.Fmt.{decimal_digit, length-decimal-le}
pub use Rattle.std.proofs.lemmas.Grind.{common_steps, flat_map-append}
pub use Rattle.std.proofs.lemmas.List.{drop_all, drop_at, length-drop, length-take, length-take-le, map-append, same_from_push, take-append-drop, take_all, take_at}
pub use Rattle.std.proofs.lemmas.List.Elements.{filter-append, filter_map-append}
pub use Rattle.std.proofs.lemmas.List.Kept.{AllPairs-filter}
pub use Rattle.std.proofs.lemmas.List.Quantifiers.{all_pairs_push}
pub use Rattle.std.proofs.lemmas.List.Sums.{length-filter, sum_by-append, sum_by-cons}
pub use Rattle.std.proofs.lemmas.Nat.{from_be_bytes-to_be_bytes_2, from_be_bytes-to_be_bytes_4, from_be_bytes-to_be_bytes_8}
pub use Rattle.std.proofs.lemmas.Option.{same_Some, slice_get_within}
pub use Rattle.std.proofs.lemmas.Slice.Eq.{bytes_eq-Decides}
pub use Rattle.std.specs.List.{AllByRecursion, AllPairs, cons_option, join_with_byte, list_any, sum_by}
pub use Rattle.std.specs.Prelude.{Contains, MatchBool, codes, count_by, decimal, filter_map, find, flat_map, is_some, nat_le, nat_lt, slice_get, slice_index_or, ◌&&◌, ◌==◌, ◌||◌}
pub use Rattle.std.specs.Str.{bytes_eq}
