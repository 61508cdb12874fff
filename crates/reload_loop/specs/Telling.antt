-- When a look writes a line about files that it does not put in force (own). Start with `Tells`.
use Rattle.std.specs.Prelude.{◌≡◌, ◌<◌, ◌≤◌, ◌+◌, ◌⊎◌, ℕ, Bool, true, Option, Some, None, option_map, ⊤}
use Rattle.server.specs.Streams.{OutputStream, GetsNothing}
use Rattle.reload_loop.specs.declared.found.Found.{Found}
use Rattle.reload_loop.specs.declared.found.Found.TheVariants.{Nothing, Refused, Admitted, Wanting}
use Rattle.reload_loop.specs.Snapshots.{Snap, IsOther}

-- The last line about files that were not put in force: the files, as they were read, and when it was written, in seconds by the clock.
pub record Told : Type 0 where
  pub read : Snap
  pub at : ℕ

-- a line about the files `read` was written at the time `at`
abbrev pub told_at : Snap → ℕ → Told
told_at read at = record { read = read; at = at }

-- at the time `now` a line about the files `read` is due: none about them was written in the 60 seconds before
abbrev pub IsDue : Option Told → ℕ → Snap → Type 0
IsDue told now read = (t : Told) → told ≡ Some t → (t.at + 60 ≤ now) ⊎ IsOther read t.read

-- What a look writes about the files `read`: a line if one is due, and otherwise nothing. For a line, `writes` says what standard error got, by whether
-- it took all. `told` is the last line before the look; the result is when the last line was written, and whether standard error took all of it.
pub data Tells (told : Option Told) (now : ℕ) (read : Snap) (err : OutputStream) (writes : Bool → Type 0) : ℕ → Bool → Type 0 where
  told_now : {whole : Bool} → IsDue told now read → writes whole → Tells told now read err writes now whole
  told_before : {at : ℕ} → told ≡ Some (told_at read at) → now < at + 60 → GetsNothing err → Tells told now read err writes at true

-- nothing was written, which is no failure
pub record IsSilent (err : OutputStream) (whole : Bool) : Type 0 where
  pub nothing : GetsNothing err
  pub whole_is : whole ≡ true

-- ---- what is remembered of lines between looks

-- the last line about the files that an earlier look found, if it wrote one
abbrev pub told_of : Found → Option Told
told_of Nothing = None
told_of (Refused read report at) = option_map (told_at read) at
told_of (Admitted read force at) = option_map (told_at read) at
told_of (Wanting read at) = option_map (told_at read) at

-- the last line about the files `read` was written at the time `at`; for `None`, the last line, if any, was about others
abbrev pub IsCarried : Option Told → Snap → Option ℕ → Type 0
IsCarried told read (Some at) = told ≡ Some (told_at read at)
IsCarried told read None = (t : Told) → told ≡ Some t → IsOther read t.read

-- `IsCarried` of the files that were found
abbrev pub Carries : Option Told → Found → Type 0
Carries told Nothing = ⊤
Carries told (Refused read report at) = IsCarried told read at
Carries told (Admitted read force at) = IsCarried told read at
Carries told (Wanting read at) = IsCarried told read at

-- when the last line was written: at `at`, or, for `None`, at the time `now`
abbrev pub last_line : Option ℕ → ℕ → ℕ
last_line (Some at) now = at
last_line None now = now
