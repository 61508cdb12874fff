-- The names that several files of these proofs use.
pub use Rattle.channels.proofs.Setting.{found_channel, found_written, same_default, set_same}
pub use Rattle.channels.specs.ConnectionsMoving.{MovesAreUnseen, connections_moved}
pub use Rattle.channels.specs.Counting.{CountsConsumers, HasTaker, consumers_at, is_consumed}
pub use Rattle.channels.specs.Deliveries.{with_limit}
pub use Rattle.channels.specs.Open.{HasNoTaker, IsConsumerMade, IsTaker, JudgesConsumer, MakesConsumer, consumer_in, given_on, open_in, places_of, settled_on, with_qos, without_named, without_settled}
pub use Rattle.channels.specs.Outstanding.{tag_of}
pub use Rattle.channels.specs.Placed.{IsPlaced, TakeWithin}
pub use Rattle.channels.specs.RunningConnections.{HoldsConnections, OpensConnection, PutsChannel, channel_at, channel_in, channel_of, channel_seen, connection_at, connection_of, limits_of, outstanding_on, running_in, seen_in, with_channel_in, with_running}
pub use Rattle.channels.specs.CountedConsumers.{NumbersRise}
pub use Rattle.channels.specs.CountedConsumers.{is_named, takes_from}
pub use Rattle.channels.specs.Spans.{IsSpan, ReturnsSpan, settled_by}
pub use Rattle.commands.specs.Commands.{Answers, AnswersHere, AnswersOn, Asks, CanCommand, CanFinish, ComesTo, Commands, DeliversHere, GivesHere, HasSpelling, IsAddressedBy, IsNotPerformed, SettlesHere, Side, Turns, UnlessPerformed, WantsNone, done_of, left_of, seen, state_of}
pub use Rattle.commands.specs.Ended.{AllConsumersStay, CancelsAt, EmptiesChannel, EmptiesConnection, LosesConnection, LosesConsumer, ReportsEnds, cancels_one, ends_of}
pub use Rattle.commands.specs.Freed.{AreReturnedAt, AreReturnedFrom}
pub use Rattle.commands.specs.Judged.{HasChannel, IsQueueIndex, JudgesLarge, opens_or_closes, refusal_by, refusal_of_number, refusal_seen, stop_of}
pub use Rattle.commands.specs.Picked.{CannotTake, DeliversTo, IsKeptAs, IsNextPicked, IsPick, IsPickFrom, TakesAs, ReturnsConsumer, ReturnsTaking}
pub use Rattle.commands.specs.State.{ArePlaced, Kept, broker_of, channel_on, names_of, topology_kept}
pub use Rattle.commands.specs.declared.acted.Acted.{Acted}
pub use Rattle.commands.specs.declared.commands.Done.{Done}
pub use Rattle.commands.specs.declared.commands.Done.TheVariants.{Performed}
pub use Rattle.commands.specs.declared.picks.Pick.{Pick}
pub use Rattle.commands.specs.declared.picks.Taking.TheVariants.{From, Nothing}
pub use Rattle.commands.specs.declared.refusals.Stop.{Stop}
pub use Rattle.commands.specs.declared.refusals.Stop.TheVariants.{Memory}
pub use Rattle.depot.proofs.Naming.{is_in, names-length}
pub use Rattle.depot.specs.Moving.{AreMoved, GoneAreEmpty, goes, stays}
pub use Rattle.depot.specs.Publishing.{Publishes}
pub use Rattle.depot.specs.Purging.{IsPurgedBy}
pub use Rattle.depot.specs.Settled.{AreSettledBy}
pub use Rattle.depot.specs.Store.{HasReady, IsNextReady, IsQueueNamed, IsStoreWhole, Store, entries_named, queue_at, with_entries_at}
pub use Rattle.exchange_graph.specs.Marks.{queue_name}
pub use Rattle.exchange_graph.specs.Routers.{access_at, access_to}
pub use Rattle.exchange_graph.specs.declared.routes.Access.TheVariants.{Absent, Internal}
pub use Rattle.model.specs.Agreement.{IsAgreed}
pub use Rattle.model.specs.Broker.{Broker, Channel, Connection, Outstanding, is_ready, listed, new_channel, queue_named, with_one, with_pair, with_row}
pub use Rattle.model.specs.Consuming.{CanDeliver, MayTake, consumer_of, has_no_tag_left, is_in_use, is_tagged, may_take, next_free, tag_for, with_consumer, without_consumer}
pub use Rattle.model.specs.Deliveries.{AreReturned, AreSettled, Leaves, Rejects, Returns, Settlement, after_delivery, after_giving, channel_after, delivery_notes, first_ready, holder_of, left_note, purge_notes, ready_in, with_queue, with_returned, written_count}
pub use Rattle.model.specs.Entries.{by_channel, by_connection, change_first, freed, freed_now, held_as, is_held_as, is_under, without_first}
pub use Rattle.model.specs.Grammar.{IsMethod}
pub use Rattle.model.specs.Naming.{AreNamed}
pub use Rattle.model.specs.Placed.{AreWithin, outstanding_in, waiting}
pub use Rattle.model.specs.Reloading.{IsInUse, NoneIsOrphaned, by_consumer, by_entry, survived_now, with_all_survived}
pub use Rattle.model.specs.Sending.{AreCarried, IsAddressed, IsCarried}
pub use Rattle.model.specs.Settling.{Rises, has_tag, is_refused, kept, settled, takes}
pub use Rattle.model.specs.Step.{Acts, Cancels, Consumes, Does, Finds, Gets, Is, IsPublish, Of_channel, Of_connection, OnConnection, Performs, Purges, after_close, answer_of, cancel_sends, channel_or_new, channels_up_to, confirm_notes, confirm_sends, consume_sends, content_or_none, declare_sends, deliver, entry_notes, exchange_named, get_ok, greatest, is_awaiting, is_none, is_of_connection, is_some_full, limited, next_of, or_else, paused, purge_sends, queue_declared, refusal, refusal_at, refusal_in, refusal_of, refusal_of_asking, refusal_of_consume, refusal_of_count, refusal_of_get, refusal_of_large, refusal_of_many, refusal_of_numbers, refusal_of_publish, refusal_of_queue_declare, refusal_of_consumer, refusal_of_settling, refusal_of_tag, refusal_of_tags, refusal_on, refusal_on_zero, refusal_to, refusal_while_closing, reply, return_of, returned_notes, select_sends, started, with_freed, with_gone}
pub use Rattle.model.specs.Topology.{AreDistinct, IsIn, Topology, queue_names}
pub use Rattle.model.specs.Words.{Text}
pub use Rattle.model.specs.declared.contents.Content.{Content}
pub use Rattle.model.specs.declared.deliveries.Delivery.{Delivery}
pub use Rattle.model.specs.declared.events.Event.TheVariants.{Deliver, Lose, Pause, Resume}
pub use Rattle.model.specs.declared.events.Send.{Send}
pub use Rattle.model.specs.declared.messages.Entry.{Entry}
pub use Rattle.model.specs.declared.messages.Holder.{Holder}
pub use Rattle.model.specs.declared.messages.Mark.{Mark}
pub use Rattle.model.specs.declared.messages.Mark.TheVariants.{Held, Ready}
pub use Rattle.model.specs.declared.messages.Taker.{Taker}
pub use Rattle.model.specs.declared.methods.Consume.{Consume}
pub use Rattle.model.specs.declared.methods.Get.{Get}
pub use Rattle.model.specs.declared.methods.Method.{Method}
pub use Rattle.model.specs.declared.methods.Method.TheVariants.{BasicAck, BasicCancel, BasicConsume, BasicGet, BasicNack, BasicPublish, BasicQos, BasicQosOk, BasicRecover, BasicRecoverOk, BasicReject, ChannelClose, ChannelCloseOk, ChannelFlow, ChannelOpen, ConfirmSelect, ConnectionClose, ExchangeDeclare, QueueDeclareOk, QueuePurge}
pub use Rattle.model.specs.declared.methods.Publish.{Publish}
pub use Rattle.model.specs.declared.methods.Qos.{Qos}
pub use Rattle.model.specs.declared.notes.Cause.TheVariants.{Acked, Auto}
pub use Rattle.model.specs.declared.notes.Note.{Note}
pub use Rattle.model.specs.declared.topologies.DeclaredQueue.{DeclaredQueue}
pub use Rattle.reloading.specs.LiveQueues.{ShowsQueues}
pub use Rattle.replies.specs.Sent.{AreAddressed, return_if, sent_back}
pub use Rattle.replies.specs.declared.steps.Step.{Step}
pub use Rattle.std.proofs.Common.{Bool, Bor, Err, List, None, Ok, Option, Result, [], ap, arith, cond, drop, false, filter, get_or, inl, inr, map, nat_eq, nat_le, not, refl, replicate, set, subst, suc, sum_by, sym, true, zero, ℕ, ◌++◌, ◌+◌, ◌-◌, ◌<◌, ◌∙◌, ◌∷◌, ◌≡◌, ◌≢◌, ◌≤◌}
pub use Rattle.std.proofs.lemmas.Bool.{and_from, and_parts, eq-eqb, eqb-true, false≢true, leb-false, lt-ltb}
pub use Rattle.std.proofs.lemmas.Bool.Decides.{leb_tells, nat_tests}
pub use Rattle.std.proofs.lemmas.List.{drop_all, drop_more, length-map, map-append}
pub use Rattle.std.proofs.lemmas.List.Elements.{All-filter, All-head, All-tail}
pub use Rattle.std.proofs.lemmas.Option.{get_or_from_slice_get, none-some, same_Some, slice_get_within}
pub use Rattle.std.proofs.lemmas.Result.{IfOk-weaker, err_from_is_err_and}
pub use Rattle.std.proofs.lemmas.Slice.Eq.{bytes_eq-Decides}
pub use Rattle.std.specs.List.{All, AllByRecursion, list_any}
pub use Rattle.std.specs.Option.{option_copied_mut}
pub use Rattle.std.specs.Prelude.{IfNone, IfOk, IfSome, OnErr, is_some, min, option_map, slice_get, slice_index_or, unwrap_or, ◌||◌}
pub use Rattle.std.specs.Str.{bytes_eq}
pub use Rattle.std.specs.declared.alloc.AllocError.{AllocError}
