-- The names that several files of these proofs use.
pub use Rattle.field_table.specs.Arguments.{Front, IsArgumentWhole, IsSized, Kind, a_field_table, a_long, a_long_long, a_long_text, a_short, a_short_text, an_octet, argument_at, arguments_at, bits_at, bits_of, kind_of, long_text_at, number_at, octets, short_text_at, some_bits, text_at}
pub use Rattle.field_table.specs.Leaves.{Unread, behind, front_at, kinds_behind, leaf_seen, read_leaf, unread}
pub use Rattle.field_table.specs.Reading.{HasNoPair, HasNone, HasPairs, HasValues, HoldsValues, IsFirstPair, IsFirstValue, Means, SpellsPairs, SpellsValues}
pub use Rattle.field_table.specs.Values.{contents_of, unread_of}
pub use Rattle.field_table.specs.View.{Named, array_view, entries_view, entry_view, field_view, fields_view, pairs_then, pairs_view, table_view, values_then}
pub use Rattle.field_table.specs.declared.fields.Field.{Field, the_lemmas}
pub use Rattle.field_table.specs.declared.fields.FieldTable.{FieldTable, roll-FieldTable}
pub use Rattle.field_table.specs.declared.fields.TableEntry.{TableEntry}
pub use Rattle.model.specs.Grammar.{Argument, Bits, Field_table, IsArgument, Long_text, Octet, Short_text, argument, octet}
pub use Rattle.model.specs.Options.{◌>>=◌}
pub use Rattle.model.specs.Tables.{ArePairs, AreValues, Byte, Byte_array, Decimal, Double, Field_array, Float, Inner_table, IsValue, Long_string, Pairs, Timestamp, Truth, Value, Values, Void, content, letter, no_pairs, no_values, pair, pairs_bytes, table_bytes, value, values_bytes, with_length}
pub use Rattle.std.proofs.Common.{Bool, Err, Global, List, None, Ok, Option, Result, Some, Vec, [], ap, append-nil, append_assoc, arith, cond, drop, eqb, false, get_or, inl, inr, length, ltb, map, refl, rules, subst, suc, sym, take, true, vec_capacity, vec_len, zero, ℕ, ◌%◌, ◌*◌, ◌++◌, ◌+◌, ◌-◌, ◌/◌, ◌<◌, ◌^◌, ◌↔◌, ◌∙◌, ◌∷◌, ◌≡◌, ◌≤◌, ◌⊎◌}
pub use Rattle.std.proofs.lemmas.Bool.{cases_lt, eqb-false, eqb-true, false≢true, le-ltb, lt-ltb, ltb-false, ltb-true, ne_eqb}
pub use Rattle.std.proofs.lemmas.List.{drop_at, drop_more, get_or-drop, get_or-take, get_or_past, length-take, take-append-drop, take_at}
pub use Rattle.std.specs.List.{AllByRecursion, flat_map}
pub use Rattle.std.specs.Prelude.{MatchBool, if◌then◌else◌, ◌==◌, ◌||◌}
