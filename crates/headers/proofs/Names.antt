-- The names that several files of these proofs use.
pub use Rattle.field_table.proofs.Exactly.{IsBytes, IsKind, argument_again, argument_takes, bind_some, sized_of, whole}
pub use Rattle.field_table.specs.Arguments.{IsArgumentWhole, IsSized, Kind, a_field_table, a_long_long, a_short_text, an_octet, argument_at, kind_of}
pub use Rattle.headers.specs.Properties.{Row, back_rows, front_rows, has_flag, option_at, options_at, properties_at}
pub use Rattle.headers.specs.Reading.{HeaderIsRefused, IsHeaderOr}
pub use Rattle.headers.specs.Unread.{GivesProperties, HeadersAreWhole, headers_in, pairs_in, parts_in, table_in, text_in}
pub use Rattle.headers.specs.Writing.{AreValues, back_flags, back_of, fixed, front_flags, front_of, values}
pub use Rattle.model.specs.Grammar.{Argument, Field_table, Long_long, Short_text, argument, class_at}
pub use Rattle.model.specs.Headers.{AreProperties, IsNoHeader, IsValue, SaysHeader, SaysSize, bad_properties, flags, flags_at, header_bytes, no_header, octet_of, properties_of, said, size, size_at, table_of, text_of, time_of, value_of, weight_at}
pub use Rattle.model.specs.Options.{◌>>=◌}
pub use Rattle.model.specs.Properties.{First, IsSpelling, as_octet, as_table, as_text, as_time, first_octet, first_table, first_text, first_time, is_flagged, properties_bytes, sorts}
pub use Rattle.model.specs.Words.{Text}
pub use Rattle.std.proofs.Common.{Bool, Err, IfOk, List, None, Ok, Option, Result, Some, [], ap, append-nil, append_assoc, arith, cond, drop, eqb, false, inl, inr, length, length-append, option_map, refl, subst, suc, sym, take, true, zero, ℕ, ◌%◌, ◌*◌, ◌++◌, ◌+◌, ◌/◌, ◌<◌, ◌^◌, ◌∙◌, ◌∷◌, ◌≡◌, ◌≢◌, ◌≤◌}
pub use Rattle.std.proofs.Math.Nat.{mod-eq_of_lt, mod-lt, pow-suc}
pub use Rattle.std.proofs.lemmas.Bool.{cases_lt, eq-eqb, eqb-true}
pub use Rattle.std.proofs.lemmas.List.{drop-drop, drop_at, get_or-drop, get_or-take, get_or_past, length-drop, length-take, take-append-drop, take_at, take_rest}
pub use Rattle.std.proofs.lemmas.Nat.{be_bytes_2, be_bytes_8, div-mul-add, from_be_bytes-to_be_bytes_2, from_be_bytes-to_be_bytes_4, from_be_bytes-to_be_bytes_8, mod-mul-add, mod-pow-add}
pub use Rattle.std.specs.Int.{from_be_bytes, to_be_bytes, w16, w64}
pub use Rattle.std.specs.List.{AllByRecursion, flat_map, slice_index}
pub use Rattle.std.specs.Prelude.{if◌then◌else◌, is_some, vec_capacity, vec_len, ◌==◌}
