-- The names that several files of these proofs use.
pub use Rattle.certificate.specs.Certified.{AreCertified, AreCertifiedBelow, ChecksAt, FailsFirst, IsCertifiedAt, IsUncertified}
pub use Rattle.certificate.specs.Checks.{Checks, ChecksOut, HasStartState, IsFineState, IsFirstWith, IsFormedBy, letter_of}
pub use Rattle.certificate.specs.Coverings.{AreMarks, Marks, covered_by, is_topic_of, some_accept, takes_out}
pub use Rattle.certificate.specs.Drafts.{HasNoFile, HasPut, IsBegun, IsDraft, IsFile, begun, listed}
pub use Rattle.certificate.specs.Joined.{ReadsBackWithin}
pub use Rattle.certificate.specs.Orders.{is_below_first, rise}
pub use Rattle.certificate.specs.Indices.{Chooses, IsPassedOver, is_less_first, passes_over, rises, same_texts}
pub use Rattle.certificate.specs.Spelled.{Texts, certificate_data, excepts_data, file_data, form_data, indices_data, number_data, state_data, states_data, texts_of}
pub use Rattle.certificate.specs.Walks.{AreGoodAlike, IsGoodBy, StepsAsLast, StepsBy, bare, bare_state, ways_of}
pub use Rattle.certificate.specs.Writes.{AreTexts, FailsToWrite, IsWritten}
pub use Rattle.certificate.specs.declared.drafts.Draft.{Draft}
pub use Rattle.certificate.specs.declared.faults.CertFault.{CertFault}
pub use Rattle.certificate_laws.proofs.Trackings.{contained, same_tracked_tells}
pub use Rattle.json.specs.Lex.{tokens}
pub use Rattle.json.specs.Print.{ends, print}
pub use Rattle.json.specs.Token.{begin_array}
pub use Rattle.json_file.proofs.Reading.{each_done, each_more, each_none, fails_then, with_front}
pub use Rattle.json_file.specs.Members.{whole_number}
pub use Rattle.model.specs.Certificates.{AreChosen, Ascend, Certificate, Excepting, IsCoveredAt, IsDropped, IsFormed, IsGoodState, IsShort, LeadsIn, PatternAnswers, Sliced, Whole, at_indices}
pub use Rattle.model.specs.Guarantee.{AllHold, CoversKey, Guarantee}
pub use Rattle.model.specs.Positions.{FitsEach, FitsTokens, IsStepOf, Letter, Named, Other, is_accepted, letters, named_words}
pub use Rattle.model.specs.Topology.{IsIn, IsThere, IsWellFormed, Topology, queue_names}
pub use Rattle.model.specs.Tracking.{Tracked, as_topic, tokens_of}
pub use Rattle.model.specs.Words.{Text}
pub use Rattle.model.specs.declared.topologies.Mode.{Mode}
pub use Rattle.model.specs.declared.topologies.Mode.TheVariants.{Never, Reaches}
pub use Rattle.serde_json.specs.Data.{Data, Items, Members, array, depth, items_depth, string}
pub use Rattle.serde_json.specs.Read.{of_items, of_json, read}
pub use Rattle.serde_json.specs.View.{items_of, items_view, view}
pub use Rattle.serde_json.specs.Written.{comma_if, compact_text, has_float, items_have_float, items_outline, items_text, members_outline, outline}
pub use Rattle.state_walks.specs.Judged.{WalkFailsFirst, are_letters_below, states_of}
pub use Rattle.std.proofs.Common.{Bool, Err, Fits, List, None, Ok, Option, Result, Some, [], add-one, ap, append-nil, append_assoc, ap₂, arith, drop, eq-eqb, eqb, false, fold, get_or, inl, inr, le-leb, leb, leb-true, length, length-append, lt-ltb, map, max, refl, rules, string_bytes, subst, suc, sym, take, true, w8, zero, ℕ, ◌++◌, ◌+◌, ◌-◌, ◌<◌, ◌^◌, ◌∙◌, ◌∷◌, ◌≡◌, ◌≤◌, ◌⊎◌}
pub use Rattle.std.proofs.lemmas.Bool.{eqb-true, false≢true}
pub use Rattle.std.proofs.lemmas.List.{drop_more, length-map}
pub use Rattle.std.proofs.lemmas.Option.{MatchOption-at_none, slice_get_past, slice_get_within}
pub use Rattle.std.proofs.lemmas.Result.{IfOk-weaker, err_from_is_err_and}
pub use Rattle.std.specs.Global.{Vec}
pub use Rattle.std.specs.List.{AllByRecursion, cons_option, list_all, list_any}
pub use Rattle.std.specs.Prelude.{AllPairs, Decides, IsSortedBy, nat_lt, not, option_and_then, slice_index, slice_index_or, ◌==◌}
