-- How content headers are spelled. Start with `header_bytes` and `SaysHeader`. Source:
-- AMQP 0-9-1, section 4.2.6.1, "The Content Header", and the basic class of its XML.
use Rattle.std.specs.Prelude.{
  ◌≡◌,
  ◌≢◌,
  ◌<◌,
  ◌≤◌,
  ◌+◌,
  ◌*◌,
  ◌^◌,
  ℕ,
  List,
  [],
  ◌∷◌,
  ◌++◌,
  length,
  take,
  drop,
  cond,
  Option,
  Some,
  None,
  is_some,
  flat_map,
  Result,
  Ok,
  Err,
  ◌⊎◌,
}
use Rattle.std.specs.Int.{w16, w64, to_be_bytes, from_be_bytes}
use Rattle.std.specs.List.{AllByRecursion}
use Rattle.model.specs.Words.{Text}
use Rattle.model.specs.Grammar.{Argument, Octet, Long_long, Short_text, Field_table, argument, IsArgument, class_at}
use Rattle.model.specs.declared.contents.Fields.{Fields as Properties}

-- The properties of a content that has none of the fourteen.
abbrev pub no_properties : Properties
no_properties = record {
  content_type = None;
  content_encoding = None;
  headers = None;
  delivery_mode = None;
  priority = None;
  correlation_id = None;
  reply_to = None;
  expiration = None;
  message_id = None;
  timestamp = None;
  kind = None;
  user_id = None;
  app_id = None;
  reserved = None;
}

-- A short text as an argument, if the property is present.
abbrev pub text_of : Option Text → Option Argument
text_of None = None
text_of (Some t) = Some (Short_text t)

-- A byte as an argument, if the property is present: delivery-mode, priority.
abbrev pub octet_of : Option ℕ → Option Argument
octet_of None = None
octet_of (Some n) = Some (Octet n)

-- A time as an argument, if the property is present: timestamp.
abbrev pub time_of : Option ℕ → Option Argument
time_of None = None
time_of (Some n) = Some (Long_long n)

-- A field table as an argument, by the bytes of its pairs, if the property is present: headers.
abbrev pub table_of : Option (List ℕ) → Option Argument
table_of None = None
table_of (Some t) = Some (Field_table t)

-- The fourteen properties in the order of their flags, from bit 15 down to bit 2.
abbrev pub properties_of : Properties → List (Option Argument)
properties_of p =
    text_of p.content_type ∷ text_of p.content_encoding ∷ table_of p.headers ∷ octet_of p.delivery_mode ∷ octet_of p.priority
    ∷ text_of p.correlation_id ∷ text_of p.reply_to ∷ text_of p.expiration ∷ text_of p.message_id ∷ time_of p.timestamp
    ∷ text_of p.kind ∷ text_of p.user_id ∷ text_of p.app_id ∷ text_of p.reserved ∷ []

-- The property flags as a number: the first property has the highest bit, the last has bit 2, and bits 1 and 0 are 0.
abbrev pub flags : List (Option Argument) → ℕ
flags [] = 0
flags (p ∷ ps) = cond (is_some p) 1 0 * 2 ^ (length ps + 2) + flags ps

-- The bytes of a property's value; none if it is absent.
abbrev pub value_of : Option Argument → List ℕ
value_of None = []
value_of (Some a) = argument a

-- The property is absent, or its value has a spelling.
abbrev pub IsValue : Option Argument → Type 0
IsValue None = Unit {0}
IsValue (Some a) = IsArgument a

-- The properties have a spelling: each that is present has one.
abbrev pub AreProperties : Properties → Type 0
AreProperties p = AllByRecursion IsValue (properties_of p)

-- The payload of a content header: class 60, weight 0, body size, flags, values.
abbrev pub header_bytes : ℕ → Properties → List ℕ
header_bytes size p = to_be_bytes w16 60 ++ to_be_bytes w16 0 ++ to_be_bytes w64 size ++ to_be_bytes w16 (flags (properties_of p))
    ++ flat_map value_of (properties_of p)

-- ---- what a payload says

-- A content header: the size of the body and the properties.
pub record Header : Type 0 where
  -- The size of the body, in bytes.
  pub size : ℕ
  pub properties : Properties

-- The weight, in the two bytes after the class; it is not used and has to be 0.
abbrev pub weight_at : List ℕ → ℕ
weight_at bytes = from_be_bytes w16 (take 2 (drop 2 bytes))

-- The size of the body, in the eight bytes after the weight.
abbrev pub size_at : List ℕ → ℕ
size_at bytes = from_be_bytes w64 (take 8 (drop 4 bytes))

-- The property flags, in the two bytes after the size.
abbrev pub flags_at : List ℕ → ℕ
flags_at bytes = from_be_bytes w16 (take 2 (drop 12 bytes))

-- The payload is no content header of the basic class: 501 frame-error.
abbrev pub IsNoHeader : List ℕ → Type 0
IsNoHeader payload = (length payload < 14) ⊎ (class_at payload ≢ 60) ⊎ (weight_at payload ≢ 0)

-- The payload declares a body of this size in bytes, or is refused with this reply code.
pub data SaysSize (payload : List ℕ) : Result ℕ ℕ → Type 0 where
  size : 14 ≤ length payload → class_at payload ≡ 60 → weight_at payload ≡ 0 → SaysSize payload (Ok (size_at payload))
  no_header : IsNoHeader payload → SaysSize payload (Err 501)

-- The payload of a header frame spells the header, or is refused: with 501 frame-error if its fixed fields are not those of a header;
-- with 502 syntax-error if they are, but the payload spells no header: flag bit 1 or 0 is set, or the properties end early, hold bytes
-- that are no table, or leave bytes over (own).
pub data SaysHeader (payload : List ℕ) : Result Header ℕ → Type 0 where
  said : {h : Header} → h.size < 2 ^ 64 → AreProperties h.properties → payload ≡ header_bytes h.size h.properties → SaysHeader payload (Ok h)
  no_header : IsNoHeader payload → SaysHeader payload (Err 501)
  bad_properties : 14 ≤ length payload → class_at payload ≡ 60 → weight_at payload ≡ 0
      → ((h : Header) → h.size < 2 ^ 64 → AreProperties h.properties → payload ≡ header_bytes h.size h.properties → ⊥) → SaysHeader payload (Err 502)
