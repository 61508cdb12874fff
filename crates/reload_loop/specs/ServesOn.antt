-- Rounds, with looks at the files between them (own).
use Rattle.std.specs.Prelude.{◌≡◌, ◌<◌, ◌≤◌, ◌-◌, ◌&&◌, ℕ, Bool, Option}
use Rattle.model.specs.Words.{Text}
use Rattle.server.specs.Files.{Known}
use Rattle.scripts.specs.FileNames.{FileNames}
use Rattle.serving.specs.Story.{Served, served}
use Rattle.serving.specs.Rounds.{Rounds}
use Rattle.engine.specs.Allocating.{MayAllocate}
use Rattle.server.specs.Streams.{change}
use Rattle.reload_loop.specs.Snapshots.{Snap}
use Rattle.reload_loop.specs.Looks.{Looks}
use Rattle.reload_loop.specs.Telling.{Told}

-- the state between rounds: what was served, the texts by which the configuration in force was judged, the last line about the files that the last look
-- found and did not put in force, what standard error holds, and whether it took each line whole
pub record BetweenRounds : Type 0 where
  pub served : Served
  pub kept : Snap
  pub told : Option Told
  pub reported : Option Text
  pub whole : Bool

-- the state between rounds with these five parts
abbrev pub between_rounds : Served → Snap → Option Told → Option Text → Bool → BetweenRounds
between_rounds v kept told reported whole = record { served = v; kept = kept; told = told; reported = reported; whole = whole }

-- one look, which asks nothing of a socket; `gives` says which times the clock may give
pub record LooksOn (gives : ℕ → Type 0) (holds : Text → Known) (names : FileNames) (old new : BetweenRounds) : Type 0 where
  pub now : ℕ
  pub given : gives now
  pub taken : Bool
  pub looks : Looks holds names now (change old.reported new.reported) old.told old.kept old.served.world new.told new.kept new.served.world taken
  pub whole : new.whole ≡ taken && old.whole
  pub rest : new.served ≡ served new.served.world old.served.peers old.served.traffic

-- `turns` rounds, with a look after every `every` of them, except at the end.
pub data ServesOn (gives : ℕ → Type 0) (holds : Text → Known) (names : FileNames) (every : ℕ) : ℕ → BetweenRounds → BetweenRounds → Type 0 where
  last : {turns : ℕ} {old new : BetweenRounds} → turns ≤ every → Rounds MayAllocate turns old.served new.served
      → new ≡ record old { served = new.served } → ServesOn gives holds names every turns old new
  more : {turns : ℕ} {old looked new : BetweenRounds} (mid : Served) → every < turns
      → Rounds MayAllocate every old.served mid → LooksOn gives holds names (record old { served = mid }) looked
      → ServesOn gives holds names every (turns - every) looked new
      → ServesOn gives holds names every turns old new

-- `ServesOn`, whatever line comes last
abbrev pub ServesTelling : (ℕ → Type 0) → (Text → Known) → FileNames → ℕ → ℕ → BetweenRounds → BetweenRounds → Type 0
ServesTelling gives holds names every turns old new = (told : Option Told) × ServesOn gives holds names every turns old (record new { told = told })
