-- The names that several files of these proofs use.
pub use Rattle.certificate_laws.proofs.Onces.{from_map, in_map}
pub use Rattle.certificate_laws.proofs.Trackings.{contained, first_is, has_place, same_tracked_tells}
pub use Rattle.certificate_laws.specs.Soundness.{AreOnce}
pub use Rattle.exchange_graph.specs.Marks.{IsSet, unset}
pub use Rattle.laws.proofs.Counts.{in-append, in_back, in_front}
pub use Rattle.model.specs.Certificates.{AreChosen, AreIndices, Excepting, Form, IsShort, KeepsTo, PatternAnswers, Sliced, Whole, at_indices, possible, sure}
pub use Rattle.model.specs.Guarantee.{Guarantee}
pub use Rattle.model.specs.Positions.{FitsEach, is_accepted}
pub use Rattle.model.specs.Routing.{Binds, Comes, Edge, Leads, Reading, RoutesBy, alternate, bound, dead, default, fixed_after, here, of_key, on, reading_after, routed}
pub use Rattle.model.specs.Topology.{AreDistinct, IsIn, IsWellFormed, Topology, exchange_names}
pub use Rattle.model.specs.Tracking.{IsTrackedList, MayEnter, Met, Selects, Tracked, appended_if_new, as_topic, by_alternate, by_binding, by_bound, by_death, by_name, keys_by, keys_from, keys_of, literal, names_in, own, same_tracked, tokens_by}
pub use Rattle.model.specs.Words.{Text, tokens, words}
pub use Rattle.model.specs.declared.topologies.Binding.{Binding}
pub use Rattle.model.specs.declared.topologies.DeclaredQueue.{DeclaredQueue}
pub use Rattle.model.specs.declared.topologies.Exchange.{Exchange}
pub use Rattle.model.specs.declared.topologies.ExchangeKind.{ExchangeKind}
pub use Rattle.model.specs.declared.topologies.ExchangeKind.TheVariants.{Direct, Fanout, Topic}
pub use Rattle.model.specs.declared.topologies.Mode.{Mode}
pub use Rattle.model.specs.declared.topologies.Mode.TheVariants.{Never, Reaches}
pub use Rattle.model.specs.declared.topologies.Destination.{Destination}
pub use Rattle.paths.proofs.Chains.{all_marked, begun_at, chain_on, none_set, set_keeps}
pub use Rattle.paths.specs.Reach.{AreReached, Chain, LinksAreWithin, MarksBegin, along, still}
pub use Rattle.paths.specs.declared.reach.Hop.{Hop}
pub use Rattle.state_routes.specs.Collected.{AreInReach, collected, keys_by_onto, keys_onto, met_onto, names_if, names_onto, onto_tracked, topics_onto}
pub use Rattle.state_routes.specs.Deaths.{AreEntered, AreGates, AreMore, GoOn, IsEnd, IsUnfixedEnd, default_entry, dying, entries, entries_through, entry, is_into_queue, links_in, next, none, unfixed_end}
pub use Rattle.state_routes.specs.Exits.{AddsAlternates, AddsGates, AreEmpty, AreExits, Exit, IsBounded, LeadFrom, LeadsFrom, exit_at, gates_from, links_from, no_exit, open_through}
pub use Rattle.state_routes.specs.Following.{Enters, Spreads}
pub use Rattle.state_routes.specs.Gates.{accepted, all_block, binding_gates, blocks, default_gate, gate_of, gates_of, has_queue, is_open, is_shut, kind_at, kind_or_direct, open_alternates, open_links, open_ways, passes, test_by, tracked_index}
pub use Rattle.state_routes.specs.Keys.{AreKeysOf, ByKind, texts_by, with_text}
pub use Rattle.state_routes.specs.Nodes.{alternate_link, alternate_links, any_links, count, end_node, link_of, links_of, node}
pub use Rattle.state_routes.specs.Placing.{RiseBelow, Rises}
pub use Rattle.state_routes.specs.declared.gates.Gate.{Gate}
pub use Rattle.state_routes.specs.declared.gates.Test.TheVariants.{Always, Pattern}
pub use Rattle.std.proofs.Common.{Bool, List, None, Option, Some, [], add-one, ap, append-nil, append_assoc, arith, cond, drop, eqb, false, get_or, inl, inr, length, map, refl, rules, set, subst, suc, sym, take, true, zero, ℕ, ◌++◌, ◌+◌, ◌<◌, ◌∙◌, ◌∷◌, ◌≡◌, ◌≤◌, ◌⊎◌}
pub use Rattle.std.proofs.lemmas.Bool.{eqb-true, false≢true}
pub use Rattle.std.proofs.lemmas.List.{at_drop_all, drop_more, length-append, length-replicate, length-set, take_all, take_more}
pub use Rattle.std.proofs.lemmas.Slice.Eq.{bytes_eq-Decides}
pub use Rattle.std.specs.List.{AllByRecursion, cons_option, filter, list_any}
pub use Rattle.std.specs.Prelude.{All, AllPairs, Contains, Decides, find, flat_map, fold, not, option_map, replicate, slice_index_or, unwrap_or, ◌&&◌, ◌||◌}
pub use Rattle.std.specs.Str.{bytes_eq}
pub use Rattle.topology_drafts.proofs.Members.{in_get}
