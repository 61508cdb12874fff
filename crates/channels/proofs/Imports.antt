-- The names that several files of these proofs use.
pub use Rattle.channels.specs.ConnectionsMoving.{MovesAreUnseen, channels_moved, connections_moved, running_moved}
pub use Rattle.channels.specs.Counting.{AllDistinct, CountsConsumers, HasChannels, HasTaker, all_consumers, consumers_at, consumers_counted, is_consumed}
pub use Rattle.channels.specs.Deliveries.{AddsConsumer, ConsumesUnnamed, Given, IsMadeUnder, JudgesNamed, JudgesUnnamed, CanMakeConsumer, RefusesUnnamed, consumer_at, may_be_given, may_of, taker_among, taker_at, with_consumer_added, with_given}
pub use Rattle.channels.specs.Moving.{AreNamedAlike, IsNamedAlike, consumer_moved, open_moved, outstanding_moved, counted_moved}
pub use Rattle.channels.specs.Names.{AreNamesSpent, IsNextName, server_name}
pub use Rattle.channels.specs.Open.{HasNoTaker, IsConsumerMade, IsOne, IsTaker, JudgesConsumer, Open, MakesConsumer, ReturnsTaker, consumer_in, open_in, places_of}
pub use Rattle.channels.specs.Outstanding.{AreInOrder, AreKept, IsTagAt, OutstandingList, given_tag, marked, tag_of, taker_of}
pub use Rattle.channels.specs.RunningConnections.{HasPlacesBelow, IsChannelSet, PutsChannel, Running, channel_at, channel_in, channel_of, connection_at, connection_of, running_in, with_channel, with_channel_at, with_channel_in}
pub use Rattle.channels.specs.CountedConsumers.{AreNumbered, AreParts, NoneAbove, NumbersRise, TagsAndCountsAgree, TagsDiffer, ConsumerCounts, CountsAgree, consumers_of, IsWoken, counted_in, counted_out, counts_of, has_name, is_named, is_numbered, may_held, number_given, taker_held, takes_from, uncounted}
pub use Rattle.channels.specs.declared.consumers.Consumer.{Consumer}
pub use Rattle.channels.specs.declared.consumers.CountedConsumer.{CountedConsumer}
pub use Rattle.model.specs.Broker.{Channel, new_channel}
pub use Rattle.model.specs.Declaring.{ChannelName}
pub use Rattle.model.specs.Placed.{is_waiting, outstanding_in, waiting}
pub use Rattle.model.specs.Prefetch.{count_given, count_to, has_tag_left, is_below, is_delivery, is_to}
pub use Rattle.model.specs.Settling.{Rises, has_tag, is_refused, kept, settled, takes}
pub use Rattle.model.specs.Step.{Of_connection, channels_up_to, greatest, or_else, refusal_of_consumer}
pub use Rattle.model.specs.Topology.{IsIn}
pub use Rattle.model.specs.Words.{Text}
pub use Rattle.model.specs.declared.deliveries.Delivery.{Delivery}
pub use Rattle.model.specs.declared.messages.Taker.{Taker}
pub use Rattle.model.specs.declared.messages.Taker.TheVariants.{Get}
pub use Rattle.std.proofs.Common.{Bool, List, None, Option, Some, [], ap, append-nil, arith, cond, drop, eqb, false, find, get_or, inl, inr, leb, length, length-append, length-drop, ltb, ltb-false, map, not, refl, replicate, rules, set, subst, suc, sum_by, sym, take, true, vec_capacity, vec_len, zero, ℕ, ◌*◌, ◌++◌, ◌+◌, ◌-◌, ◌<◌, ◌^◌, ◌∙◌, ◌∷◌, ◌≡◌, ◌≤◌}
pub use Rattle.std.proofs.lemmas.Bool.{eqb-true, false≢true, le-leb, lt-leb, lt-ltb, ne_eqb}
pub use Rattle.std.proofs.lemmas.Bool.Decides.{eqb_tells, leb_tells}
pub use Rattle.std.proofs.lemmas.Fn.{filter_same}
pub use Rattle.std.proofs.lemmas.List.{drop-map, drop-set-add, get_or-drop, get_or-replicate, get_or-set_other, get_or-set_same, get_or-take, get_or_past, length-map, length-replicate, length-set, map-append, replicate_more, set_split}
pub use Rattle.std.proofs.lemmas.List.Elements.{All-filter, filter-append, filter_more, filter_passes}
pub use Rattle.std.proofs.lemmas.List.Kept.{AllPairs-filter}
pub use Rattle.std.proofs.lemmas.List.Sums.{count_by-le-length, length-filter, sum_by-append, sum_by-cons}
pub use Rattle.std.proofs.lemmas.Map.Made.{lookup-map_values, map_same_pairs}
pub use Rattle.std.proofs.lemmas.Option.{none-some, same_Some}
pub use Rattle.std.specs.List.{All, AllByRecursion, IsDistinct, list_any, position_from}
pub use Rattle.std.specs.Map.{keys_of, lookup, set_value, values_of}
pub use Rattle.std.specs.Option.{option_copied_mut}
pub use Rattle.std.specs.Prelude.{AllPairs, Decides, IfSome, IsSome, OnErr, OnOk, is_some, min, slice_index_or, slice_set, ◌||◌, ◌⊎◌}
