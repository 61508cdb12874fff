-- The names that several files of these proofs use.
pub use Rattle.exchange_graph.proofs.Marking.{set_only, unset_fewer}
pub use Rattle.exchange_graph.proofs.Naming.{get_any, get_map, one_at, same_queue}
pub use Rattle.exchange_graph.specs.Edges.{LeadsOn, LeadsToQueue}
pub use Rattle.exchange_graph.specs.Fans.{AreSteps, EndsWithin, destination_of}
pub use Rattle.exchange_graph.specs.Marks.{IsSet, exchange_name, queue_name, unset}
pub use Rattle.exchange_graph.specs.declared.ends.End.{End}
pub use Rattle.laws.proofs.Safe.{comes_fixed}
pub use Rattle.model.specs.Refutations.{Walk, ends, name_of}
pub use Rattle.model.specs.Routing.{Comes, Dies, Edge, Leads, Reading, RoutesBy, alternate, bound, dead, default, fixed_after, here, key_after, of_key, reading_after, routed}
pub use Rattle.model.specs.Topology.{IsIn, IsWellFormed, Topology, exchange_names, queue_names}
pub use Rattle.model.specs.Words.{Text}
pub use Rattle.model.specs.declared.topologies.DeclaredQueue.{DeclaredQueue}
pub use Rattle.model.specs.declared.topologies.Destination.{Destination}
pub use Rattle.paths.specs.Deaths.{AreDeaths, AreFronts, IsDeathOf, IsFrontAt}
pub use Rattle.paths.specs.Exploring.{AreExplored, Exploring, GoesOn, IsExploration, IsLeft, KeptOrFixed, Onto, after, comes, there}
pub use Rattle.paths.specs.Found.{ExpandsVisit}
pub use Rattle.paths.specs.Keyed.{Adds, AddsAll, AreOneOn, LeadsDead, NextLocation, SomeGoesOn, WalksOn, into, is_queue}
pub use Rattle.paths.specs.Leading.{AddsFront, AddsLink, AreLeading, AreLinked, ComesAfter, IsFront, IsLeading, IsSource, LinkHolds, LinksAll, SomeLeads, links_from}
pub use Rattle.paths.specs.Onward.{AreNext, Fixes, Follows, IsRefixed, Next, Refixes, location_at}
pub use Rattle.paths.specs.Reach.{AreReached, Chain, IsLinkPending, LinksAreWithin, MarksBegin, along, still}
pub use Rattle.paths.specs.Rows.{IsRow, MarksColumn, RowIsOpened, Sets, left, left_all}
pub use Rattle.paths.specs.Locations.{IsFixedThere, IsSpotThere, IsLocationThere, end_spot, fixed_keys, fixed_of, spot_place}
pub use Rattle.paths.specs.Visits.{AddsVisit, AreVisits, IsAdded, IsDone, IsVisited, IsVisitedAt, Searching, LocationIsMarked, VisitsAreKept, VisitsGrow, column_of, row_of, width}
pub use Rattle.paths.specs.declared.keyed.KeyedPlace.{KeyedPlace}
pub use Rattle.paths.specs.declared.keyed.KeyedPlace.TheVariants.{Queue}
pub use Rattle.paths.specs.declared.reach.Hop.{Hop}
pub use Rattle.paths.specs.declared.locations.Spot.{Spot}
pub use Rattle.paths.specs.declared.locations.Location.{Location}
pub use Rattle.paths.specs.declared.visits.Visit.{Visit}
pub use Rattle.std.proofs.Common.{Bool, List, None, Option, Some, [], ap, append_assoc, arith, cond, drop, get_or, inl, inr, length, length-append, map, refl, reverse, rules, set, subst, suc, sym, take, true, zero, ℕ, ◌++◌, ◌+◌, ◌-◌, ◌<◌, ◌∙◌, ◌∷◌, ◌≡◌, ◌≤◌}
pub use Rattle.std.proofs.lemmas.Bool.{false≢true}
pub use Rattle.std.proofs.lemmas.List.{drop_all, drop_more, get_or-set_other, get_or-set_same, length-replicate, length-set, reverse-append, take_all, take_more}
pub use Rattle.std.proofs.lemmas.Option.{slice_get_within}
pub use Rattle.std.proofs.lemmas.Result.{IfOk-weaker, on_ok_weaker}
pub use Rattle.std.proofs.lemmas.Slice.Eq.{bytes_eq-Decides}
pub use Rattle.std.specs.List.{list_any}
pub use Rattle.std.specs.Prelude.{Contains, Decides, is_some, not, slice_get, slice_index_or, ◌&&◌, ◌||◌, ◌↔◌}
pub use Rattle.topology_drafts.proofs.Members.{in_append, in_contains, in_get, in_left, in_map, in_right, map_in}
