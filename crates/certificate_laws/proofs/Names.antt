-- The names that several files of these proofs use.
pub use Rattle.laws.proofs.Counts.{all_in, in-append, in_back, in_front}
pub use Rattle.model.proofs.Joins.{any_matches, any_snoc_is, any_snoc_was, one_snoc, snoc_any, snoc_none, snoc_one, snoc_word, start_bit, word_snoc}
pub use Rattle.model.specs.Certificates.{Accepts, AreChosen, AreClosed, AreIndices, Certificate, Excepting, Form, IsCoveredAt, IsDropped, IsGoodState, IsZeroFirst, KeepsTo, LeadsIn, PatternAnswers, Sliced, Whole, at_indices, possible, sure}
pub use Rattle.model.specs.Guarantee.{CoversKey, Guarantee, Holds, Keeps}
pub use Rattle.model.specs.Positions.{BitsAfter, BitsAtStart, ForEach, ForEachPair, Letter, Named, Other, RepresentsByTokens, RepresentsWord, StartsAt, StepsTo, RecordsFrom, RecordsMatches, bit_after, has_bit, is_accepted, letters, named_words, takes_letter, word_of}
pub use Rattle.model.specs.Routing.{Binds, Comes, Dies, Edge, Leads, Passes, Reading, RoutesBy, alternate, bound, dead, default, fixed_after, here, of_key, on, reading_after, routed}
pub use Rattle.model.specs.Topology.{IsIn, Topology}
pub use Rattle.model.specs.Tracking.{IsTrackedList, MayEnter, Met, Selects, Tracked, appended_if_new, as_topic, by_alternate, by_binding, by_bound, by_death, by_name, each_once, keys_by, keys_from, keys_of, literal, own, same_kind, same_tracked, tokens_of}
pub use Rattle.model.specs.Words.{Matches, Text, any_more, any_none, none, one, tokens, word, words}
pub use Rattle.model.specs.declared.texts.Token.{Token}
pub use Rattle.model.specs.declared.texts.Token.TheVariants.{Any, One, Word}
pub use Rattle.model.specs.declared.topologies.Binding.{Binding}
pub use Rattle.model.specs.declared.topologies.DeclaredQueue.{DeclaredQueue}
pub use Rattle.model.specs.declared.topologies.Exchange.{Exchange}
pub use Rattle.model.specs.declared.topologies.ExchangeKind.{ExchangeKind}
pub use Rattle.model.specs.declared.topologies.ExchangeKind.TheVariants.{Direct, Fanout, Topic}
pub use Rattle.model.specs.declared.topologies.Mode.{Mode}
pub use Rattle.model.specs.declared.topologies.Mode.TheVariants.{Never, Reaches}
pub use Rattle.model.specs.declared.topologies.Destination.{Destination}
pub use Rattle.std.proofs.Common.{Bool, List, None, Option, Some, [], ap, append-nil, append_assoc, arith, cond, false, inl, inr, length, lit<, lit≤, refl, subst, suc, sym, true, zero, ℕ, ◌+◌, ◌<◌, ◌∙◌, ◌∷◌, ◌≡◌, ◌⊎◌}
pub use Rattle.std.proofs.lemmas.Bool.{false≢true}
pub use Rattle.std.proofs.lemmas.Slice.Eq.{bytes_eq-Decides}
pub use Rattle.std.specs.List.{AllByRecursion, cons_option, list_any, slice_get}
pub use Rattle.std.specs.Prelude.{AllPairs, Contains, Decides, codes, filter_map, flat_map, fold, slice_index_or, ◌&&◌, ◌==◌, ◌||◌}
pub use Rattle.std.specs.Str.{bytes_eq}
