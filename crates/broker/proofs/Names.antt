-- The names that several files of these proofs use.
pub use Rattle.broker.specs.Leaving.{AddsLeaver, AreAdded, FindsLeavers, IsAmong, IsConsumerIn, IsNamed, consumer_at, leavers_of, remains}
pub use Rattle.channels.specs.Counting.{AllDistinct}
pub use Rattle.broker.specs.Lines.{IsPassed, ahead, count_before, is_consumer, is_other}
pub use Rattle.broker.specs.Moving.{IndicesDiffer, IsOfEither, LinesAreMoved, LinesCome}
pub use Rattle.broker.specs.Rounds.{AllAddTheirOwn, AllAreConsumers, AllAreEmpty, AllAreInLines, AreItsConsumers, AreKept, CanJoin, CanTakeFrom, CannotTakeFrom, ComesLast, GoesLast, GoesOn, HasConsumer, IsAsleep, IsAwake, IsExpected, IsNextMarked, IsNotAsleepAt, IsServing, LeaveLines, LeavesIfNamed, NobodyFallsAsleep, NoneBetween, NoneMarked, NonePassed, PicksFirst, PicksFrom, QueuesAreMarked, Rounds, SameLines, SameOrders, asleep_member, awake_member, has_taker, is_numbered_of, is_of, line_of, order, takes_from, wakes, wakes_on}
pub use Rattle.broker.specs.Turns.{WithTurn, with_turn}
pub use Rattle.broker.specs.Waiting.{AllInLine, CanGive, IsFirst, IsServedSoon, IsPickedInTurn, LinesMove, LinesStay, NobodyIsPutBack, NobodyWaits, NoneIsLater, QueueWaits, ServesSoon, IsInLine, WaitersAreConsumers, Waits, ahead_at, line_at, owed, queues, count_before_at}
pub use Rattle.broker.specs.declared.rounds.leaving.Gone.{Gone}
pub use Rattle.broker.specs.declared.rounds.leaving.Gone.TheVariants.{Nobody, One, Several}
pub use Rattle.broker.specs.declared.rounds.leaving.Leavers.{Leavers}
pub use Rattle.channels.proofs.Setting.{same_default}
pub use Rattle.channels.specs.Consumers.{consumer_numbered, next_number}
pub use Rattle.channels.specs.Moving.{place_now}
pub use Rattle.channels.specs.Open.{consumer_in, open_in}
pub use Rattle.channels.specs.RunningConnections.{channel_at, channel_in, channel_of, connection_at, limits_of, running_in}
pub use Rattle.commands.proofs.Picking.{pick_from, same_place}
pub use Rattle.commands.proofs.Remaining.{one_stays, same_stay}
pub use Rattle.commands.proofs.Stepping.{seen_there}
pub use Rattle.commands.specs.Ended.{AllConsumersStay, ReportsEnds}
pub use Rattle.commands.specs.Picked.{CannotTake, IsKeptAs, IsPick, IsPickFrom, TakesAs}
pub use Rattle.commands.specs.NewConsumers.{IsConsumed, IsNewest, consumed, has_consumer, makes_consumer, next_consumer, consumer_to_make}
pub use Rattle.commands.specs.State.{ArePlaced, Kept, names_of}
pub use Rattle.commands.specs.declared.acted.Ends.{Ends}
pub use Rattle.commands.specs.declared.picks.Pick.{Pick}
pub use Rattle.depot.proofs.Naming.{is_in, names-length}
pub use Rattle.depot.specs.Moving.{AreMoved, goes}
pub use Rattle.depot.specs.Store.{HasReady, IsStoreWhole, queue_at}
pub use Rattle.exchange_graph.specs.Marks.{queue_name}
pub use Rattle.laws.proofs.Counts.{count-append, count-map}
pub use Rattle.laws.specs.Consumers.{ConsumersAreMade, IsMadeBy, WasConsumer}
pub use Rattle.marks.specs.Sets.{Differs, bit_of}
pub use Rattle.model.specs.Agreement.{IsAgreed}
pub use Rattle.model.specs.Broker.{Broker, Channel, Connection, Outstanding, is_ready, with_one, with_pair, with_row}
pub use Rattle.model.specs.Consuming.{CanDeliver, MayTake, consumer_of, may_take, taker_of}
pub use Rattle.model.specs.Deliveries.{channel_after, first_ready, outstanding_after}
pub use Rattle.model.specs.Entries.{by_channel, is_held_as}
pub use Rattle.model.specs.Grammar.{Ids, ids_of}
pub use Rattle.model.specs.Reloading.{NoneIsOrphaned, survived_now, with_all_survived}
pub use Rattle.model.specs.Step.{Acts, Decides, Does, Gets, Ignored, Is, IsDelivery, Of_channel, Of_connection, OnConnection, OnLarge, Performs, Refusal, Refuses, channel_or_new, channels_up_to, empty_publish, paused, refusal, refusal_of_large, with_channel, with_freed}
pub use Rattle.model.specs.Topology.{AreDistinct, IsIn, Topology, queue_names}
pub use Rattle.model.specs.Words.{Text}
pub use Rattle.model.specs.declared.contents.Content.{Content}
pub use Rattle.model.specs.declared.events.Event.{Event}
pub use Rattle.model.specs.declared.events.Event.TheVariants.{Command, Deliver, Fault, First, Lose, Pause, Resume, TooLarge}
pub use Rattle.model.specs.declared.events.Send.{Send}
pub use Rattle.model.specs.declared.messages.Entry.{Entry}
pub use Rattle.model.specs.declared.methods.Method.{Method}
pub use Rattle.model.specs.declared.methods.Method.TheVariants.{BasicAck, BasicCancel, BasicConsume, BasicGet, BasicNack, BasicPublish, BasicQos, BasicRecover, BasicReject, ChannelClose, ChannelCloseOk, ChannelFlow, ChannelOpen, ConfirmSelect, ConnectionClose, ExchangeDeclare, QueueDeclare, QueuePurge}
pub use Rattle.model.specs.declared.notes.Note.{Note}
pub use Rattle.replies.specs.Sent.{connection_of_event}
pub use Rattle.std.proofs.Common.{Bool, Err, List, None, Ok, Option, Result, Some, [], ap, arith, cond, drop, false, filter, find, get_or, if◌then◌else◌, inl, inr, length, map, min, refl, set, subst, suc, sym, take, true, zero, ℕ, ◌*◌, ◌++◌, ◌+◌, ◌-◌, ◌<◌, ◌∙◌, ◌∷◌, ◌≤◌}
pub use Rattle.std.proofs.lemmas.Bool.{eq-eqb, eqb-true, false≢true, lt-ltb}
pub use Rattle.std.proofs.lemmas.Bool.Decides.{leb_tells}
pub use Rattle.std.proofs.lemmas.List.{append-nil, get_or-set_other, get_or-set_same, get_or_past, length-set, take_at}
pub use Rattle.std.proofs.lemmas.List.Elements.{filter-append}
pub use Rattle.std.proofs.lemmas.Option.{same_Some}
pub use Rattle.std.specs.List.{list_any}
pub use Rattle.std.specs.Map.{lookup}
pub use Rattle.std.specs.Option.{option_copied}
pub use Rattle.std.specs.Prelude.{IfSome, OnErr, OnOk, is_some, nat_lt, not, option_map, ◌&&◌, ◌==◌, ◌||◌}
pub use Rattle.waiting_lines.specs.Order.{AllAsleep, Loses, Member, NonePass, Queue, Wakes, all_awake, items_of}
pub use Rattle.waiting_lines.specs.Picked.{PicksOne, Rest}
