-- The names that several files of these proofs use.
pub use Rattle.guarantees.specs.Causes.{AreClear, AreFewEnough, ArePatterns, AreReported, IsExchangeOrDefault, IsGuaranteeWorded, NamesAreThere}
pub use Rattle.guarantees.specs.Covering.{KeepsIn}
pub use Rattle.guarantees.specs.Reads.{AreAccepted, AreClearFor, AreRefused, IsGuaranteesFile}
pub use Rattle.json_file.proofs.Refused.{free_of, refused_unread, unread}
pub use Rattle.json_file.specs.declared.causes.FileCause.{FileCause}
pub use Rattle.json_file.specs.declared.causes.FileCause.TheVariants.{Absent, TooMany, Worded}
pub use Rattle.model.specs.Guarantee.{Covers, Guarantee}
pub use Rattle.model.specs.Topology.{IsIn, Topology, exchange_names, queue_names}
pub use Rattle.model.specs.Words.{Matches, Text, tokens, words}
pub use Rattle.std.proofs.Common.{Bool, Bor, List, None, Option, Some, [], ap, append-nil, append_assoc, arith, cond, drop, false, inl, inr, length, refl, subst, suc, sym, true, zero, ℕ, ◌++◌, ◌<◌, ◌∙◌, ◌∷◌, ◌≡◌}
pub use Rattle.std.proofs.lemmas.Result.{err_from_is_err_and}
pub use Rattle.std.proofs.lemmas.Slice.Eq.{bytes_eq-Decides}
pub use Rattle.std.specs.List.{AllByRecursion}
pub use Rattle.std.specs.Prelude.{All, Decides, find, is_some, not, option_copied, ◌⊎◌}
pub use Rattle.std.specs.Str.{bytes_eq}
pub use Rattle.std.specs.Vec.Iter.{into_iter_items, into_iter_len}
