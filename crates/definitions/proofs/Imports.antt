-- The names that several files of these proofs use.
pub use Rattle.definitions.specs.Causes.{HasAllJoin, HasAllWorded, HasFew, HasDistinctNames, HasNamesLead, HasPermissions, IsClear, IsClearBelow, IsOfUser, IsPermitted, IsPlainQueue, IsSupported, PermitsAll, permission_names, user_names}
pub use Rattle.definitions.specs.File.{File, entries_at, file_of}
pub use Rattle.definitions.specs.Hashed.{AreHashed}
pub use Rattle.definitions.specs.Judged.{IsSettled, StatesOrReports}
pub use Rattle.definitions.specs.Shape.{exchange_entry_at, permission_entry_at, plain_at, queue_entry_at, user_entry_at}
pub use Rattle.definitions.specs.States.{hash_of, queue_of, topology_of, user_of}
pub use Rattle.definitions.specs.declared.document.UserEntry.{UserEntry}
pub use Rattle.json_file.proofs.Order.{all_numbered, below_next}
pub use Rattle.json_file.proofs.Reading.{fails_then}
pub use Rattle.json_file.proofs.Refused.{AskNothing, free_of, refused, refused_unread, unread}
pub use Rattle.json_file.specs.Members.{optional_number_member, optional_text_member, text_member}
pub use Rattle.json_file.specs.declared.causes.FileCause.{FileCause}
pub use Rattle.json_file.specs.declared.causes.FileCause.TheVariants.{Absent, Malformed, Memory, NoExchange, NotJson, OtherHash, Repeated, TooMany, Unsupported, Worded}
pub use Rattle.model.specs.Topology.{AreDistinct, Topology}
pub use Rattle.model.specs.Words.{Text}
pub use Rattle.model.specs.declared.messages.User.{User}
pub use Rattle.serde_json.specs.View.{view}
pub use Rattle.std.proofs.Common.{Bool, Err, Global, List, None, Ok, Option, Result, Some, Vec, [], ap, append-nil, append_assoc, arith, drop, false, get_or, length, map, refl, rules, subst, suc, sym, take, take_all, tests, true, zero, ℕ, ◌&&◌, ◌++◌, ◌+◌, ◌<◌, ◌∙◌, ◌∷◌, ◌≡◌, ◌≤◌}
pub use Rattle.std.proofs.lemmas.Iterator.{YieldsList-from_slice, cases_from_all}
pub use Rattle.std.proofs.lemmas.List.Elements.{All-from_all_within, All-more}
pub use Rattle.std.proofs.lemmas.Result.{err_from_is_err_and}
pub use Rattle.std.specs.Prelude.{All, Decides, IsSome, MatchBool, MatchOption, codes}
pub use Rattle.topology_drafts.specs.Causes.{AllJoin, IsBuildable, KeyHasExchange}
