-- The table or value that a `FieldTable` or a `Field` represents.
use Rattle.std.specs.Prelude.{List, [], ◌∷◌, map}
use Rattle.model.specs.Words.{Text}
use Rattle.model.specs.Tables.{Value, Values, Pairs, Truth, Byte, Short, Long, Long_long, Float, Double, Decimal, Long_string}
use Rattle.model.specs.Tables.{Field_array, Timestamp, Inner_table, Byte_array, Void, no_values, value, no_pairs, pair}
use Rattle.field_table.specs.declared.fields.Field.{Field, fold-Field}
use Rattle.field_table.specs.declared.fields.Field.TheOpen as fields
use Rattle.field_table.specs.declared.fields.TableEntry.{TableEntry, fold-TableEntry}
use Rattle.field_table.specs.declared.fields.FieldTable.{FieldTable, fold-FieldTable}

-- a name and its value
pub record Named : Type 0 where
  pub name : Text
  pub value : Value

-- the values `xs` followed by the values `vs`
abbrev pub values_then : List Value → Values → Values
values_then [] vs = vs
values_then (x ∷ xs) vs = value x (values_then xs vs)

-- the pairs `xs` followed by the pairs `ps`
abbrev pub pairs_then : List Named → Pairs → Pairs
pairs_then [] ps = ps
pairs_then (x ∷ xs) ps = pair x.name x.value (pairs_then xs ps)

-- the value of a `Field` whose inner values are already converted
abbrev pub field_step : fields.Field-F Value Pairs Named → Value
field_step (fields.Truth b) = Truth b
field_step (fields.Byte n) = Byte n
field_step (fields.Short n) = Short n
field_step (fields.Long n) = Long n
field_step (fields.LongLong n) = Long_long n
field_step (fields.Float n) = Float n
field_step (fields.Double n) = Double n
field_step (fields.Decimal scale digits) = Decimal scale digits
field_step (fields.Text t) = Long_string t
field_step (fields.Array v) = Field_array (values_then v.items no_values)
field_step (fields.Timestamp n) = Timestamp n
field_step (fields.Table t) = Inner_table t
field_step (fields.Bytes t) = Byte_array t
field_step fields.Void = Void

-- the pair of a `TableEntry` whose value is already converted
abbrev pub entry_step : fields.TableEntry-F Value Pairs Named → Named
entry_step e = record { name = e.name; value = e.value }

-- the pairs of a `FieldTable` whose values are already converted
abbrev pub table_step : fields.FieldTable-F Value Pairs Named → Pairs
table_step t = pairs_then t.entries.items no_pairs

-- the value that a `Field` represents, with everything nested in it
abbrev pub field_view : Field → Value
field_view = fold-Field Value Pairs Named field_step table_step entry_step

-- the pair that a `TableEntry` represents
abbrev pub entry_view : TableEntry → Named
entry_view = fold-TableEntry Value Pairs Named field_step table_step entry_step

-- the pairs that a `FieldTable` represents, in order
abbrev pub table_view : FieldTable → Pairs
table_view = fold-FieldTable Value Pairs Named field_step table_step entry_step

-- the values that these fields represent, as a list
abbrev pub fields_view : List Field → List Value
fields_view fs = map field_view fs

-- the pairs that these entries represent, as a list
abbrev pub entries_view : List TableEntry → List Named
entries_view es = map entry_view es

-- the array of these fields
abbrev pub array_view : List Field → Values
array_view fs = values_then (fields_view fs) no_values

-- the pairs of a table of these entries
abbrev pub pairs_view : List TableEntry → Pairs
pairs_view es = pairs_then (entries_view es) no_pairs
