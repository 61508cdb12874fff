-- The obstacle to a reload that is offered to an engine (own).
use Rattle.std.specs.Prelude.{Option}
use Rattle.model.specs.State.{Config}
use Rattle.model.specs.Arrivals.{World}
use Rattle.model.specs.declared.obstacles.Obstacle.{Obstacle}
use Rattle.reloading.specs.Obstacles.{Judges}

-- `o` is the first obstacle to putting `offered` in force, or `None` if there is none
abbrev pub JudgesOffered : World → Config → Option Obstacle → Type 0
JudgesOffered w offered o = Judges w.config.topology offered w.state.broker o
