-- How an engine replies to bytes (own).
use Rattle.std.specs.Prelude.{◌≡◌, ◌++◌, ℕ, List, length}
use Rattle.model.specs.Run.{Happening}
use Rattle.model.specs.Arrivals.{World, WorksOff}
use Rattle.runs.specs.Opened.{Hears, TakesAway}

-- each complete command of connection `c` is performed, until the connection is paused or over
abbrev pub PerformsAll : World → ℕ → World → Type 0
PerformsAll old c new = (happenings : List Happening) × WorksOff old c happenings new

-- `bytes` are fed to connection `c`, each command that they complete is performed, and all output that waits for the client is appended to
-- `before` and taken.
pub record Answers (old : World) (c : ℕ) (bytes before after : List ℕ) (new : World) : Type 0 where
  pub fed : World
  pub done : World
  pub hears : Hears old c bytes fed
  pub performs : PerformsAll fed c done
  pub appended : after ≡ before ++ (done.wire c).output
  pub takes : TakesAway done c (length (done.wire c).output) new
