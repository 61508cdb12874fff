-- What a reader returns, compared with what the JSON value says (own). A report of an allocation failure promises nothing.
use Rattle.std.specs.Prelude.{◌≡◌, ◌≤◌, ◌<◌, ℕ, List, Option, Some, None, Result, Ok, Err, length, Vec}
use Rattle.std.specs.declared.alloc.Global.{Global}
use denote.Ref.{Bor}
use Rattle.serde_json.specs.Data.{Data}
use Rattle.serde_json.specs.View.{view}
use Rattle.serde_json.specs.declared.value.Value.{Value}
use Rattle.json_file.specs.Members.{IsJson}
use Rattle.json_file.specs.declared.causes.FileCause.{FileCause}
use Rattle.json_file.specs.declared.causes.FileCause.TheVariants.{NotJson, Malformed, TooMany, Memory}

-- the reader fails as `Malformed`, and the reason `why` applies; or as `Memory`, which needs no reason
abbrev pub FailsJson : FileCause → Type 0 → Type 0
FailsJson Malformed why = why
FailsJson Memory why = Unit {0}
FailsJson _ why = ⊥

-- the reader returns what the value states; or the value states nothing, or an allocation failed
abbrev pub GivesValue : {A : Type 0} → Result A FileCause → Option A → Type 0
GivesValue (Ok x) o = o ≡ Some x
GivesValue (Err e) o = FailsJson e (o ≡ None)

-- the reader returns the part that the value states, borrowed; or the value states nothing, or an allocation failed
abbrev pub GivesView : Result (Bor Value) FileCause → Option Data → Type 0
GivesView (Ok v) o = o ≡ Some (view v.now)
GivesView (Err e) o = FailsJson e (o ≡ None)

-- the reader returns the list that the value states, or refuses the value: it states no list, or an allocation failed
abbrev pub GivesItems : {A : Type 0} → Result (Vec A Global) FileCause → Option (List A) → Type 0
GivesItems (Ok v) o = o ≡ Some v.items
GivesItems (Err e) o = FailsJson e (o ≡ None)

-- a file is parsed, or refused because it is too long or no JSON
abbrev pub Parses : Result Value FileCause → List ℕ → Type 0
Parses (Ok v) bytes = IsJson bytes (view v)
Parses (Err TooMany) bytes = 16777216 < length bytes
Parses (Err NotJson) bytes = (length bytes ≤ 16777216) × ((d : Data) → IsJson bytes d → ⊥)
Parses (Err Memory) bytes = Unit {0}
Parses (Err _) bytes = ⊥
