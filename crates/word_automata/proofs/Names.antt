-- The names that several files of these proofs use.
pub use Rattle.certificate_laws.proofs.Certificates.{start_each}
pub use Rattle.model.specs.Certificates.{IsShort}
pub use Rattle.model.specs.Positions.{BitsAfter, BitsAtStart, FitsEach, IsStartState, IsStepOf, Letter, Named, Other, StartsAt, StepsTo, bit_after, bit_at_start, has_bit, letters, named_words, takes_letter, word_of}
pub use Rattle.model.specs.Topology.{IsIn}
pub use Rattle.model.specs.Tracking.{Tracked, appended_if_new, literal, tokens_of}
pub use Rattle.model.specs.Words.{Text}
pub use Rattle.model.specs.declared.texts.Token.{Token}
pub use Rattle.model.specs.declared.texts.Token.TheVariants.{Any, One, Word}
pub use Rattle.std.proofs.Common.{Bool, List, None, Some, [], add-one, add_comm, ap, append_assoc, arith, drop, false, get_or, inl, inr, length, map, max, min, nat_eq, not, refl, subst, suc, sym, true, zero, ℕ, ◌%◌, ◌*◌, ◌++◌, ◌+◌, ◌-◌, ◌/◌, ◌<◌, ◌^◌, ◌∙◌, ◌∷◌, ◌≡◌, ◌≤◌, ◌⊎◌}
pub use Rattle.std.proofs.Math.Nat.{mod-add-div', pow-suc}
pub use Rattle.std.proofs.lemmas.Bool.{eqb-true, false≢true}
pub use Rattle.std.proofs.lemmas.Nat.{and_le_r, le_or_l, or_lt}
pub use Rattle.std.proofs.lemmas.Nat.Bits.{bit_at-lt, bit_at-suc, bit_at_above, bit_at_and, bit_at_cat_low, bit_at_lowest, bit_at_or}
pub use Rattle.std.specs.Int.{bit_at}
pub use Rattle.std.specs.List.{AllByRecursion}
pub use Rattle.std.specs.Prelude.{bit_or, filter_map, flat_map, fold, if◌then◌else◌, slice_get, slice_index, slice_index_or, ◌&&◌, ◌==◌, ◌||◌}
pub use Rattle.word_automata.specs.Alphabet.{IsAlphabet, moves_of, names_from, names_on, rows_of, stays_of}
pub use Rattle.word_automata.specs.Differing.{DifferOnlyAt, EachDiffersOnlyAt, IsDiffering, LeadsAlike, MovesAlike, number_at}
pub use Rattle.word_automata.specs.Masks.{AreMasks, MasksFrom, Starts, StartsEach, StepsEach, StepsMasks, bit, mask_of, moves_at, moves_by, moves_on, stays_at, stays_by, stays_on}
