-- The first entry of a list about which something is reported (own).
use Rattle.std.specs.Prelude.{◌≡◌, ◌<◌, ℕ, List, Option, Some, None, slice_get}

-- `reported` is the report about the entry at some index, and nothing is reported about the entries before it.
pub record IsReportedFirst {X Y : Type 0} (Reports : ℕ → X → Option Y → Type 0) (xs : List X) (reported : Y) : Type 0 where
  pub place : ℕ
  pub one : X
  pub there : slice_get xs place ≡ Some one
  pub reports : Reports place one (Some reported)
  pub none_before : (i : ℕ) (x : X) → i < place → slice_get xs i ≡ Some x → Reports i x None

-- nothing is reported about the entries before index `place`
abbrev pub ReportsNoneBelow : {X Y : Type 0} → (ℕ → X → Option Y → Type 0) → List X → ℕ → Type 0
ReportsNoneBelow {X = X} Reports xs place = (i : ℕ) (x : X) → i < place → slice_get xs i ≡ Some x → Reports i x None

-- the report about the first entry that has one; `None` if no entry has one
abbrev pub ReportsFirst : {X Y : Type 0} → (ℕ → X → Option Y → Type 0) → List X → Option Y → Type 0
ReportsFirst Reports xs (Some reported) = IsReportedFirst Reports xs reported
ReportsFirst {X = X} Reports xs None = (i : ℕ) (x : X) → slice_get xs i ≡ Some x → Reports i x None
