-- The names that several files of these proofs use.
pub use Rattle.exchange_graph.specs.Fans.{ArePassing, AreSteps, EndsWithin, Fan, LeadOn, destination_of, end_of, ends_at, ends_by_key, ends_of, exchange_index, fan_of, or_alternate, patterns_of, queue_index, way_of, ways_from}
pub use Rattle.exchange_graph.specs.Keyed.{IsEven, PutsUnder, ends_beside, ends_under}
pub use Rattle.exchange_graph.specs.Marks.{AreFound, AreMet, AreSeen, Arrives, Expands, IsMet, IsPending, IsSet, MarksAreClosed, MarksEnds, Reaching, exchange_name, queue_name, set_indices, unset}
pub use Rattle.exchange_graph.specs.Targets.{AreTargets, AreVisited, names_at}
pub use Rattle.exchange_graph.specs.declared.ends.Branch.{Branch}
pub use Rattle.exchange_graph.specs.declared.ends.End.{End}
pub use Rattle.exchange_graph.specs.declared.ends.End.TheVariants.{Into, Onward}
pub use Rattle.model.specs.Routing.{Binds, Dies, Edge, Leads, Passes, Picks, Reading, Routes, alternate, bound, default, here, none, of_key, on, pass}
pub use Rattle.model.specs.Topology.{AreDistinct, IsIn, IsThere, IsWellFormed, Topology, exchange_names, queue_names}
pub use Rattle.model.specs.Words.{Matches, Text, tokens, words}
pub use Rattle.model.specs.declared.topologies.Binding.{Binding}
pub use Rattle.model.specs.declared.topologies.DeclaredQueue.{DeclaredQueue}
pub use Rattle.model.specs.declared.topologies.Exchange.{Exchange}
pub use Rattle.model.specs.declared.topologies.ExchangeKind.TheVariants.{Direct, Fanout, Topic}
pub use Rattle.model.specs.declared.topologies.Destination.{Destination}
pub use Rattle.std.proofs.Common.{Bool, List, [], ap, append-nil, append_assoc, arith, cond, drop, eq-eqb, eqb, false, find, get_or, inl, inr, length, ltb, map, refl, replicate, set, slice_get, subst, suc, sym, true, zero, ℕ, ◌++◌, ◌+◌, ◌<◌, ◌==◌, ◌∙◌, ◌∷◌, ◌≡◌, ◌≤◌}
pub use Rattle.std.proofs.lemmas.Bool.{eqb-true, ltb-false, ltb-true}
pub use Rattle.std.proofs.lemmas.List.{at_drop_all, drop_more, length-append, length-map, length-replicate, length-set, take_more}
pub use Rattle.std.proofs.lemmas.Result.{IfOk-weaker, on_ok_weaker}
pub use Rattle.std.proofs.lemmas.Slice.Eq.{bytes_eq-Decides}
pub use Rattle.std.specs.List.{list_any, position_or_len, prefix_len}
pub use Rattle.std.specs.Prelude.{AllPairs, Contains, Decides, IfNone, option_map, ◌||◌}
pub use Rattle.std.specs.Str.{bytes_eq}
pub use Rattle.topology_drafts.proofs.Entering.{same_place}
pub use Rattle.topology_drafts.proofs.Members.{contains_in, in_append, in_contains, in_get, in_left, in_map, in_right, map_in}
