-- Why a machine refused a reload.
use Rattle.std.specs.Prelude.{Option, Some, None}
use Rattle.model.specs.declared.obstacles.Obstacle.{Obstacle}
use Rattle.model.specs.declared.obstacles.Obstacle.TheVariants as obstacle
use Rattle.runs.specs.declared.faults.ReloadFault.{ReloadFault}
use Rattle.runs.specs.declared.faults.ReloadFault.TheVariants.{InUse, Breaks, Memory}

-- the obstacle to the reload, or `None` if an allocation failed
abbrev pub obstacle_in : ReloadFault → Option Obstacle
obstacle_in (InUse q) = Some (obstacle.InUse q)
obstacle_in (Breaks q key number) = Some (obstacle.Breaks q key number)
obstacle_in Memory = None
