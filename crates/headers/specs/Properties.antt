-- Reading properties by their flags, from left to right. Source: AMQP 0-9-1, section 4.2.6.1, "The Content Header", and the basic class of its XML.
use Rattle.std.specs.Prelude.{◌/◌, ◌%◌, ◌^◌, ◌==◌, ℕ, List, [], ◌∷◌, ◌++◌, length, Bool, if◌then◌else◌, Option, Some, None}
use Rattle.model.specs.Grammar.{Argument}
use Rattle.field_table.specs.Arguments.{Kind, an_octet, a_short_text, a_long_long, a_field_table, argument_at}
use Rattle.model.specs.Options.{◌>>=◌}

-- ---- the table

-- a property: the number of its flag bit, and its kind
pub record Row : Type 0 where
  pub bit : ℕ
  pub kind : Kind

-- the row of flag bit `bit` and this kind
abbrev pub row : ℕ → Kind → Row
row bit kind = record { bit = bit; kind = kind }

-- the first seven properties: content-type, content-encoding, headers, delivery-mode, priority, correlation-id, reply-to
abbrev pub front_rows : List Row
front_rows = row 15 a_short_text ∷ row 14 a_short_text ∷ row 13 a_field_table
    ∷ row 12 an_octet ∷ row 11 an_octet ∷ row 10 a_short_text ∷ row 9 a_short_text ∷ []

-- the last seven properties: expiration, message-id, timestamp, type, user-id, app-id, reserved
abbrev pub back_rows : List Row
back_rows = row 8 a_short_text ∷ row 7 a_short_text ∷ row 6 a_long_long ∷ row 5 a_short_text ∷ row 4 a_short_text ∷ row 3 a_short_text ∷ row 2 a_short_text ∷ []

-- ---- reading

-- whether bit number `bit` of the flags is set
abbrev pub has_flag : ℕ → ℕ → Bool
has_flag flags bit = flags / 2 ^ bit % 2 == 1

-- the property at the front if `is` is true, otherwise no property, with the bytes after it; `None` if `is` is true and the property isn't there
abbrev pub option_at : Bool → Kind → List ℕ → Option (Option Argument × List ℕ)
option_at is k bytes = if is then (argument_at k bytes >>= λ x. Some (Some x.0, x.1)) else Some (None, bytes)

-- for each row a property, present if its flag is set, and the bytes after them
abbrev pub options_at : ℕ → List Row → List ℕ → Option (List (Option Argument) × List ℕ)
options_at flags [] bytes = Some ([], bytes)
options_at flags (r ∷ rs) bytes = option_at (has_flag flags r.bit) r.kind bytes >>= λ x. options_at flags rs x.1 >>= λ y. Some (x.0 ∷ y.0, y.1)

-- the bytes are exactly the properties that the flags name, and the flags' two lowest bits are 0
abbrev pub properties_at : ℕ → List ℕ → Option (List (Option Argument))
properties_at flags bytes =
    if flags % 4 == 0 then
    (options_at flags front_rows bytes >>= λ x. options_at flags back_rows x.1 >>= λ y. if length y.1 == 0 then Some (x.0 ++ y.0) else None)
    else None
