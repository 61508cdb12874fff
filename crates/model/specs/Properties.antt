-- Properties as the bytes of a header spell them, and what such bytes say. Start with
-- `properties_bytes` and `spelled_by`. Source: AMQP 0-9-1, section 4.2.6.1, "The Content Header".
use Rattle.std.specs.Prelude.{
  ◌≡◌,
  ◌+◌,
  ◌/◌,
  ◌%◌,
  ◌^◌,
  ◌==◌,
  ℕ,
  List,
  [],
  ◌∷◌,
  ◌++◌,
  length,
  take,
  drop,
  slice_index,
  if◌then◌else◌,
  Bool,
  Option,
  Some,
  None,
  flat_map,
}
use Rattle.std.specs.Int.{w16, w32, w64, to_be_bytes, from_be_bytes}
use Rattle.model.specs.Words.{Text}
use Rattle.model.specs.Grammar.{Argument, Octet, Long_long, Short_text, Field_table, argument}
use Rattle.model.specs.Headers.{no_properties, properties_of, flags, value_of, AreProperties}
use Rattle.model.specs.declared.contents.Fields.{Fields as Properties}

-- Flags and values, as they are in a header after the size of the body.
abbrev pub properties_bytes : Properties → List ℕ
properties_bytes p = to_be_bytes w16 (flags (properties_of p)) ++ flat_map value_of (properties_of p)

-- ---- what the bytes spell

-- A function that reads the value at the front of the bytes. There is one for each type of value.
abbrev pub First : Type 0
First = List ℕ → Argument

-- Reads a short text: a length in one byte, and that many bytes.
abbrev pub first_text : First
first_text bytes = Short_text (take (slice_index bytes 0) (drop 1 bytes))

-- Reads one byte.
abbrev pub first_octet : First
first_octet bytes = Octet (slice_index bytes 0)

-- Reads a time, in eight bytes.
abbrev pub first_time : First
first_time bytes = Long_long (from_be_bytes w64 (take 8 bytes))

-- Reads the pairs of a table: a length in four bytes, and that many bytes.
abbrev pub first_table : First
first_table bytes = Field_table (take (from_be_bytes w32 (take 4 bytes)) (drop 4 bytes))

-- The types of the fourteen properties, in the order of their flags.
abbrev pub sorts : List First
sorts =
    first_text ∷ first_text ∷ first_table ∷ first_octet ∷ first_octet ∷ first_text ∷ first_text ∷ first_text ∷ first_text ∷ first_time ∷ first_text ∷ first_text
    ∷ first_text ∷ first_text ∷ []

-- Whether the flags have this bit.
abbrev pub is_flagged : ℕ → ℕ → Bool
is_flagged flags bit = flags / 2 ^ bit % 2 == 1

-- The value of each property, read from `bytes` in order, or `None` if its flag is not set: the first property has the highest bit, the last has bit 2.
unfoldable pub values_in : ℕ → List First → List ℕ → List (Option Argument)
values_in flags [] bytes = []
values_in flags (first ∷ others) bytes =
    if is_flagged flags (length others + 2) then (Some (first bytes) ∷ values_in flags others (drop (length (argument (first bytes))) bytes))
    else (None ∷ values_in flags others bytes)

-- The text, if the value is one.
abbrev pub as_text : Option Argument → Option Text
as_text (Some (Short_text t)) = Some t
as_text _ = None

-- The byte, if the value is one.
abbrev pub as_octet : Option Argument → Option ℕ
as_octet (Some (Octet n)) = Some n
as_octet _ = None

-- The time, if the value is one.
abbrev pub as_time : Option Argument → Option ℕ
as_time (Some (Long_long n)) = Some n
as_time _ = None

-- The pairs, if the value is a table.
abbrev pub as_table : Option Argument → Option (List ℕ)
as_table (Some (Field_table t)) = Some t
as_table _ = None

-- The properties with these fourteen values, in the order of their flags.
unfoldable pub properties_from : List (Option Argument) → Properties
properties_from (a ∷ b ∷ c ∷ d ∷ e ∷ f ∷ g ∷ h ∷ i ∷ j ∷ k ∷ l ∷ m ∷ n ∷ []) = record {
  content_type = as_text a;
  content_encoding = as_text b;
  headers = as_table c;
  delivery_mode = as_octet d;
  priority = as_octet e;
  correlation_id = as_text f;
  reply_to = as_text g;
  expiration = as_text h;
  message_id = as_text i;
  timestamp = as_time j;
  kind = as_text k;
  user_id = as_text l;
  app_id = as_text m;
  reserved = as_text n;
}
properties_from _ = no_properties

-- The properties that the bytes spell, if they spell any.
unfoldable pub spelled_by : List ℕ → Properties
spelled_by bytes = properties_from (values_in (from_be_bytes w16 (take 2 bytes)) sorts (drop 2 bytes))

-- The bytes are flags and values of properties that have a spelling.
pub record IsSpelling (bytes : List ℕ) : Type 0 where
  pub fits : AreProperties (spelled_by bytes)
  pub spelled : bytes ≡ properties_bytes (spelled_by bytes)
