-- The names that several files of these proofs use.
pub use Rattle.json_file.specs.Causes.{cause_number}
pub use Rattle.json_file.specs.Files.{AllClearBelow, IsCauseReported, IsFileOf, IsFreeOf, IsLeastCause, IsUnreadFile}
pub use Rattle.json_file.specs.Members.{IsJson, fills, has_only, named_among}
pub use Rattle.json_file.specs.Outcomes.{FailsJson}
pub use Rattle.json_file.specs.declared.causes.FileCause.{FileCause}
pub use Rattle.json_file.specs.declared.causes.FileCause.TheVariants.{Absent, Malformed, Memory, NoExchange, NoOverflow, NotJson, OtherHash, OtherPermission, OtherType, OtherVhost, Repeated, TooMany, Unsupported, Worded}
pub use Rattle.serde_json.specs.Data.{Data, array, boolean, null, number, object, string}
pub use Rattle.serde_json.specs.View.{items_view, members_view, view}
pub use Rattle.std.proofs.Common.{Bool, Bor, Global, List, None, Option, Some, String, Vec, [], ap, append-nil, append_assoc, arith, drop, false, get_or, inl, inr, length, map, not, option_map, refl, string_bytes, subst, sym, true, vec_len, ℕ, ◌++◌, ◌+◌, ◌<◌, ◌==◌, ◌∙◌, ◌∷◌, ◌≡◌, ◌≤◌}
