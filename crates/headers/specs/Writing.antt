-- The encoding of headers. Source: AMQP 0-9-1, section 4.2.6.1, "The Content Header".
use Rattle.std.specs.Prelude.{◌≡◌, ◌+◌, ◌*◌, ℕ, List, [], ◌∷◌, ◌++◌, length, Bool, cond, is_some, flat_map, Option, Some, None, ⊤}
use Rattle.std.specs.List.{AllByRecursion}
use Rattle.std.specs.Int.{w16, w64, to_be_bytes}
use Rattle.model.specs.Grammar.{Argument}
use Rattle.model.specs.Headers.{text_of, octet_of, time_of, table_of, value_of, IsValue, AreProperties, header_bytes}
use Rattle.model.specs.declared.contents.Fields.{Fields as Properties}
use Rattle.headers.specs.declared.contents.UnwrittenHeader.{UnwrittenHeader}
use Rattle.headers.specs.declared.contents.UnwrittenHeader.TheVariants.{SyntaxError, Memory}

-- the first seven properties in the order of their flags
abbrev pub front_of : Properties → List (Option Argument)
front_of p =
    text_of p.content_type ∷ text_of p.content_encoding ∷ table_of p.headers ∷ octet_of p.delivery_mode ∷ octet_of p.priority
    ∷ text_of p.correlation_id ∷ text_of p.reply_to ∷ []

-- the last seven properties in the order of their flags
abbrev pub back_of : Properties → List (Option Argument)
back_of p =
    text_of p.expiration ∷ text_of p.message_id ∷ time_of p.timestamp ∷ text_of p.kind ∷ text_of p.user_id ∷ text_of p.app_id
    ∷ text_of p.reserved ∷ []

-- the encodings of the properties that are present, one after another
abbrev pub values : List (Option Argument) → List ℕ
values os = flat_map value_of os

-- each property that is present can be encoded
abbrev pub AreValues : List (Option Argument) → Type 0
AreValues os = AllByRecursion IsValue os

-- `weight` if the property is present, as `is` says, and otherwise 0
abbrev pub flag : Bool → ℕ → ℕ
flag is weight = cond is 1 0 * weight

-- the flags of the first seven properties: bits 15 to 9
abbrev pub front_flags : Properties → ℕ
front_flags p =
    flag (is_some p.content_type) 32768 + flag (is_some p.content_encoding) 16384 + flag (is_some p.headers) 8192 + flag (is_some p.delivery_mode) 4096
    + flag (is_some p.priority) 2048 + flag (is_some p.correlation_id) 1024 + flag (is_some p.reply_to) 512

-- the flags of the last seven properties: bits 8 to 2
abbrev pub back_flags : Properties → ℕ
back_flags p =
    flag (is_some p.expiration) 256 + flag (is_some p.message_id) 128 + flag (is_some p.timestamp) 64 + flag (is_some p.kind) 32
    + flag (is_some p.user_id) 16 + flag (is_some p.app_id) 8 + flag (is_some p.reserved) 4

-- class 60, weight 0 and the body's size
abbrev pub sized : ℕ → List ℕ
sized size = to_be_bytes w16 60 ++ to_be_bytes w16 0 ++ to_be_bytes w64 size

-- class 60, weight 0, the body's size and the flags
abbrev pub fixed : ℕ → ℕ → List ℕ
fixed size flags = to_be_bytes w16 60 ++ to_be_bytes w16 0 ++ to_be_bytes w64 size ++ to_be_bytes w16 flags

-- ---- the result

-- the error is correct: `SyntaxError` only if the properties can't be encoded; `Memory` always is
abbrev pub PropertiesRefused : Properties → UnwrittenHeader → Type 0
PropertiesRefused p SyntaxError = AreProperties p → ⊥
PropertiesRefused p Memory = ⊤

-- the result is the length of a header with these properties, for a body of any size, or `None` if they can't be encoded
abbrev pub CountsHeader : Properties → Option ℕ → Type 0
CountsHeader p (Some n) = AreProperties p × ((size : ℕ) → n ≡ length (header_bytes size p))
CountsHeader p None = AreProperties p → ⊥
