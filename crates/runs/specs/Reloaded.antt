-- What a reload does to a machine.
use Rattle.std.specs.Prelude.{◌≡◌, ℕ, Option, Some, None, Result, Ok, Err}
use Rattle.model.specs.State.{Config}
use Rattle.model.specs.Step.{Is}
use Rattle.model.specs.Arrivals.{World, Same}
use Rattle.model.specs.Reloading.{IsObstacle, HasNoObstacle, with_all_survived}
use Rattle.model.specs.declared.obstacles.Obstacle.{Obstacle}
use Rattle.runs.specs.Faults.{obstacle_in}
use Rattle.runs.specs.declared.faults.ReloadFault.{ReloadFault}
use Rattle.runs.specs.declared.faults.ReloadFault.TheVariants.{Memory}

-- There is no obstacle to putting `offered` in force.
abbrev pub NothingHinders : World → Config → Type 0
NothingHinders w offered = HasNoObstacle w.config.topology offered w.state.broker

-- The reload was done, as there was no obstacle: `offered` is in force, each message is marked as one that the reload found, and nothing else changed.
pub record IsPutInForce (old : World) (offered : Config) (new : World) : Type 0 where
  pub nothing : NothingHinders old offered
  pub config : new.config ≡ offered
  pub broker : Is (with_all_survived old.state.broker) new.state.broker
  pub session : (c : ℕ) → new.state.session c ≡ old.state.session c
  pub given : new.given ≡ old.given
  pub wires : (c : ℕ) → new.wire c ≡ old.wire c

-- The reload was not done: the first obstacle is reported, or an allocation failed (`None`), and nothing has changed.
abbrev pub ReportsWhyNot : World → Config → Option Obstacle → World → Type 0
ReportsWhyNot old offered (Some o) new = IsObstacle old.config.topology offered old.state.broker o × Same old new
ReportsWhyNot old offered None new = Same old new

-- what each result of a reload means: `Ok`, that there was no obstacle and it was done; an error, that it was not done, and why
abbrev pub ReportsReload : World → Config → Result Unit ReloadFault → World → Type 0
ReportsReload old offered (Ok x) new = IsPutInForce old offered new
ReportsReload old offered (Err f) new = ReportsWhyNot old offered (obstacle_in f) new

-- an allocation failed
pub data IsMemory : Result Unit ReloadFault → Type 0 where
  wanting : IsMemory (Err Memory)
