-- What a whole log says.
use Rattle.std.proofs.Common.{◌≡◌, ℕ, List, Bool, true, false, Some, None, flat_map, if◌then◌else◌}
use Rattle.std.specs.Prelude.{is_some}
use Rattle.model.specs.State.{Config}
use Rattle.model.specs.Arrivals.{World}
use Rattle.runs.specs.Wants.{Lacks}
use Rattle.serving.specs.Wire.{Call}
use Rattle.serving.specs.Joined.{written_to}
use Rattle.memory_wire.specs.Served.{LogsBytes}
use Rattle.callers.specs.Served.{IsServed}

pub log_served : (L : Lacks) (f : Config) (b : Bool) (calls : List Call) (w : World) (bytes : List ℕ) → is_some (if b then Some calls else None) ≡ true
    → LogsBytes L f (if b then Some calls else None) w → bytes ≡ flat_map (written_to 0) calls → IsServed L f bytes
log_served L f true calls w bytes e t took = record { calls = calls; last = w; logs = t; took = took }
log_served L f false calls w bytes e t took = absurd (cc)
