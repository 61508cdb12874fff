-- Files and the causes for which they are refused (own). `stated_at` returns what a JSON value states, or `None` if it states nothing. `Clear bad x`
-- says that the cause `bad` doesn't apply to the statement `x`.
use Rattle.std.specs.Prelude.{◌≡◌, ◌<◌, ◌≤◌, ℕ, List, Option, Some, None, length}
use Rattle.serde_json.specs.Data.{Data}
use Rattle.json_file.specs.Members.{IsJson, IsJsonFile}
use Rattle.json_file.specs.declared.causes.FileCause.{FileCause}
use Rattle.json_file.specs.declared.causes.FileCause.TheVariants.{NotJson, Malformed, TooMany, Memory}
use Rattle.json_file.specs.Causes.{cause_number}

-- ---- the lowest-numbered of several causes, where `Clear` is that a cause does not apply

-- no cause below number `n` applies
abbrev pub AllClearBelow : (FileCause → Type 0) → ℕ → Type 0
AllClearBelow Clear n = (bad : FileCause) → cause_number bad < n → Clear bad

-- This cause applies, and none of a lower number does.
pub record IsLeastCause (Clear : FileCause → Type 0) (bad : FileCause) : Type 0 where
  pub below : AllClearBelow Clear (cause_number bad)
  pub stands : Clear bad → ⊥

-- the reported cause is the lowest-numbered one that applies; a report of an allocation failure promises nothing
abbrev pub IsCauseReported : (FileCause → Type 0) → FileCause → Type 0
IsCauseReported Clear Memory = Unit {0}
IsCauseReported Clear bad = IsLeastCause Clear bad

-- ---- what a file states

-- the file is JSON and states `x`
pub record IsFileOf {X : Type 0} (stated_at : Data → Option X) (bytes : List ℕ) (x : X) : Type 0 where
  pub value : Data
  pub json : IsJson bytes value
  pub states : stated_at value ≡ Some x

-- the file is JSON and states nothing
pub record StatesNothing {X : Type 0} (stated_at : Data → Option X) (bytes : List ℕ) : Type 0 where
  pub value : Data
  pub json : IsJson bytes value
  pub states : stated_at value ≡ None

-- a file states nothing: it is too long, or no JSON, or JSON of another shape; a report of an allocation failure promises nothing
abbrev pub IsUnreadFile : {X : Type 0} → (Data → Option X) → FileCause → List ℕ → Type 0
IsUnreadFile stated_at NotJson bytes = (length bytes ≤ 16777216) × ((d : Data) → IsJson bytes d → ⊥)
IsUnreadFile stated_at Malformed bytes = StatesNothing stated_at bytes
IsUnreadFile stated_at TooMany bytes = 16777216 < length bytes
IsUnreadFile stated_at Memory bytes = Unit {0}
IsUnreadFile stated_at _ bytes = ⊥

-- ---- the causes that apply to a file

-- if the file is JSON it states something
abbrev pub IsWellShaped : {X : Type 0} → (Data → Option X) → List ℕ → Type 0
IsWellShaped {X} stated_at bytes = (d : Data) → IsJson bytes d → (x : X) × (stated_at d ≡ Some x)

-- if the file states something, the cause does not apply to what it states
abbrev pub HasClear : {X : Type 0} → (Data → Option X) → (FileCause → X → Type 0) → FileCause → List ℕ → Type 0
HasClear {X} stated_at Clear bad bytes = (x : X) → IsFileOf stated_at bytes x → Clear bad x

-- the file is not too long, and does not state too much
pub record IsInLimits {X : Type 0} (stated_at : Data → Option X) (Clear : FileCause → X → Type 0) (bytes : List ℕ) : Type 0 where
  pub short : length bytes ≤ 16777216
  pub few : HasClear stated_at Clear TooMany bytes

-- This cause does not apply to the file. A file that is too long is not parsed, so that no other cause applies to it.
abbrev pub IsFreeOf : {X : Type 0} → (Data → Option X) → (FileCause → X → Type 0) → List ℕ → FileCause → Type 0
IsFreeOf stated_at Clear bytes NotJson = IsJsonFile bytes
IsFreeOf stated_at Clear bytes Malformed = IsWellShaped stated_at bytes
IsFreeOf stated_at Clear bytes TooMany = IsInLimits stated_at Clear bytes
IsFreeOf stated_at Clear bytes bad = HasClear stated_at Clear bad bytes
