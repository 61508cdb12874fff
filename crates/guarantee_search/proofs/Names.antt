-- The names that several files of these proofs use.
pub use Rattle.certificate.proofs.Forming.{dropped_passed, passed_dropped, rise_tells}
pub use Rattle.certificate.specs.Coverings.{AreMarks, Marks}
pub use Rattle.certificate.specs.Indices.{IsPassedOver, passes_over}
pub use Rattle.certificate.specs.Views.{form_view}
pub use Rattle.certificate.specs.Walks.{IsGoodBy, ways_of}
pub use Rattle.certificate_laws.proofs.Certificates.{letter_of, named_from, named_stands, other_stands, start_each, step_each}
pub use Rattle.certificate_laws.proofs.Onces.{from_map, in_map, once_from}
pub use Rattle.guarantee_search.specs.Spellings.{IsFilled, IsNoDot, SpellsLetters, followed_by, spelled_key}
pub use Rattle.guarantee_search.specs.Walked.{AreSorted, AreTried, IsWalkOf, first_form, indices_from, slice_form}
pub use Rattle.model.specs.Certificates.{Accepts, AreChosen, AreIndices, Ascend, Certificate, Excepting, Form, IsDropped, IsGoodState, IsShort, IsZeroFirst, LeadsIn, Sliced, Suits, Whole, at_indices}
pub use Rattle.model.specs.Guarantee.{CoversKey, Guarantee, Keeps}
pub use Rattle.model.specs.Positions.{FitsEach, IsStartState, IsStateOf, IsStepOf, Letter, Named, Other, RepresentsWord, RecordsMatches, has_bit, letters, named_words, word_of}
pub use Rattle.model.specs.Refutations.{Breaks, Refutation, Refutes}
pub use Rattle.model.specs.Searches.{BreaksLong, HasManyStates, IsBrokenFor, IsOfKey, IsPlainByte, IsTooLarge, IsWord}
pub use Rattle.model.specs.Topology.{AreDistinct, IsIn, Topology}
pub use Rattle.model.specs.Tracking.{IsTrackedList, Tracked, literal, tokens_by, tokens_of}
pub use Rattle.model.specs.Words.{Text, onto_first, pieces, token, tokens, words}
pub use Rattle.state_routes.proofs.Fitting.{all_short, chosen_fit}
pub use Rattle.state_routes.specs.Fitting.{HavePatterns}
pub use Rattle.state_routes.specs.Known.{IsKnown, Leading}
pub use Rattle.state_walks.specs.Found.{Entry, IsFoundState}
pub use Rattle.state_walks.specs.Judged.{are_letters_below, states_of}
pub use Rattle.state_walks.specs.Ways.{AreTooMany, FewerAreGood, IsBrokenBy, IsClosed, IsLost, SpellsState}
pub use Rattle.std.proofs.Common.{Bool, Fits, List, None, Option, Some, [], add-one, ap, append-nil, append_assoc, arith, below_more, cond, drop, eqb, false, get_or, inl, inr, length, refl, subst, suc, sym, take, true, w8, zero, ℕ, ◌%◌, ◌++◌, ◌+◌, ◌<◌, ◌^◌, ◌∙◌, ◌∷◌, ◌≡◌, ◌≤◌, ◌⊎◌}
pub use Rattle.std.proofs.lemmas.Bool.{eqb-true, false≢true}
pub use Rattle.std.proofs.lemmas.List.{length-append, length-map}
pub use Rattle.std.proofs.lemmas.Option.{get_or_from_slice_get, slice_get_within}
pub use Rattle.std.proofs.lemmas.Slice.Eq.{bytes_eq-Decides}
pub use Rattle.std.specs.Fmt.{decimal}
pub use Rattle.std.specs.Global.{Vec}
pub use Rattle.std.specs.List.{AllByRecursion, cons_option, list_any}
pub use Rattle.std.specs.Prelude.{Decides, IsSortedBy, filter_map, flat_map, map, slice_get, slice_index_or, ◌&&◌, ◌==◌}
pub use Rattle.std.specs.Str.{bytes_eq}
