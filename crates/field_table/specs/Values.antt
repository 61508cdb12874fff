-- A value as it is read in a first step, with arrays and tables still as bytes. Source: AMQP 0-9-1, section 4.2.5.5, "Field Tables".
use Rattle.std.specs.Prelude.{List, [], ◌∷◌}
use Rattle.model.specs.Grammar.{Argument, Octet, Short, Long, Long_long, Long_text, Bits}
use Rattle.model.specs.Tables.{Value, letter, values_bytes, pairs_bytes}
use Rattle.model.specs.Tables as tables
use Rattle.field_table.specs.Leaves.{Unread, unread}

-- the arguments after a value's type letter
abbrev pub contents_of : Value → List Argument
contents_of (tables.Truth b) = Bits (b ∷ []) ∷ []
contents_of (tables.Byte n) = Octet n ∷ []
contents_of (tables.Short n) = Short n ∷ []
contents_of (tables.Long n) = Long n ∷ []
contents_of (tables.Long_long n) = Long_long n ∷ []
contents_of (tables.Float n) = Long n ∷ []
contents_of (tables.Double n) = Long_long n ∷ []
contents_of (tables.Decimal scale digits) = Octet scale ∷ Long digits ∷ []
contents_of (tables.Long_string t) = Long_text t ∷ []
contents_of (tables.Field_array vs) = Long_text (values_bytes vs) ∷ []
contents_of (tables.Timestamp n) = Long_long n ∷ []
contents_of (tables.Inner_table ps) = Long_text (pairs_bytes ps) ∷ []
contents_of (tables.Byte_array t) = Long_text t ∷ []
contents_of tables.Void = []

-- a value as a leaf has it: its letter and the arguments after it, an array or a table as its bytes
abbrev pub unread_of : Value → Unread
unread_of v = unread (letter v) (contents_of v)
