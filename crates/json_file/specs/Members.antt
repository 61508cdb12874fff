-- The members of a JSON value (RFC 8259, as `serde_json` parses it).
use Rattle.std.specs.Prelude.{
  codes,
  ◌≡◌,
  ◌≤◌,
  ◌^◌,
  ℕ,
  List,
  [],
  ◌∷◌,
  Bool,
  true,
  false,
  ◌&&◌,
  Option,
  Some,
  None,
  length,
  is_some,
  if◌then◌else◌,
  nat_lt,
  option_map,
  option_and_then,
  unwrap_or,
  IsUtf8,
}
use Rattle.std.specs.Str.{bytes_eq}
use Rattle.std.specs.List.{list_any}
use Rattle.serde_json.specs.Data.{Data, null, boolean, number, string, array, object, Items, no_items, item, Members, no_members, member}
use Rattle.serde_json.specs.Read.{read}
use Rattle.serde_json.specs.Find.{get, as_bool, as_str, as_number, as_u64, as_array, as_object}

-- a file of at most 16,777,216 bytes is this JSON value
pub record IsJson (bytes : List ℕ) (d : Data) : Type 0 where
  pub short : length bytes ≤ 16777216
  pub text : IsUtf8 bytes
  pub value : read bytes ≡ Some d

-- a file, if it has at most 16,777,216 bytes, is JSON
abbrev pub IsJsonFile : List ℕ → Type 0
IsJsonFile bytes = length bytes ≤ 16777216 → (d : Data) × IsJson bytes d

-- a whole number below 2^64
abbrev pub whole_number : Data → Option ℕ
whole_number d = option_and_then as_u64 (as_number d)

-- the text at member `name`
unfoldable pub text_member : List ℕ → Data → Option (List ℕ)
text_member name d = option_and_then as_str (get name d)

-- the boolean at member `name`
unfoldable pub truth_member : List ℕ → Data → Option Bool
truth_member name d = option_and_then as_bool (get name d)

-- the array at member `name`
unfoldable pub array_member : List ℕ → Data → Option Items
array_member name d = option_and_then as_array (get name d)

-- the value, if it is an object
abbrev pub if_object : Data → Option Data
if_object d = if is_some (as_object d) then Some d else None

-- the object at the member `arguments`
unfoldable pub arguments_member : Data → Option Data
arguments_member d = option_and_then if_object (get (codes "arguments") d)

-- the value of a member that may be left out: `Some None` if it is, and `None` if it is there and `reads` finds no value in it
abbrev pub optional : {A : Type 0} → (Data → Option A) → Option Data → Option (Option A)
optional reads None = Some None
optional reads (Some d) = option_map (λ x. Some x) (reads d)

-- the text at member `name`, which may be left out
unfoldable pub optional_text_member : List ℕ → Data → Option (Option (List ℕ))
optional_text_member name d = optional as_str (get name d)

-- `n`, if it is below 2^32
abbrev pub small : ℕ → Option ℕ
small n = if nat_lt n (2 ^ 32) then Some n else None

-- the value, if it is a whole number below 2^32
abbrev pub small_number : Data → Option ℕ
small_number d = option_and_then small (whole_number d)

-- the whole number below 2^32 at member `name`, which may be left out
unfoldable pub optional_number_member : List ℕ → Data → Option (Option ℕ)
optional_number_member name d = optional small_number (get name d)

-- whether the array has an element
abbrev pub fills : Items → Bool
fills no_items = false
fills (item d ds) = true

-- whether the array at member `name`, which may be left out, has an element
unfoldable pub is_filled : List ℕ → Data → Option Bool
is_filled name d = option_map (λ o. unwrap_or o false) (optional (λ x. option_map fills (as_array x)) (get name d))

-- whether each member has one of the names `names`
abbrev pub named_among : List (List ℕ) → Members → Bool
named_among names no_members = true
named_among names (member k d ms) = list_any (λ n. bytes_eq n k) names && named_among names ms

-- whether the value is an object whose members each have one of the names `names`
abbrev pub has_only : List (List ℕ) → Data → Bool
has_only names null = false
has_only names (boolean b) = false
has_only names (number n) = false
has_only names (string s) = false
has_only names (array ds) = false
has_only names (object ms) = named_among names ms

-- what the elements state, if each states something
unfoldable pub each : {A : Type 0} → (Data → Option A) → Items → Option (List A)
each reads no_items = Some []
each reads (item d ds) = option_and_then (λ x. option_map (λ xs. x ∷ xs) (each reads ds)) (reads d)
