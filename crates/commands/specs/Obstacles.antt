-- The obstacle to a reload, which doesn't depend on who may log in (own).
use Rattle.std.specs.Prelude.{List, Option}
use Rattle.model.specs.Topology.{Topology}
use Rattle.model.specs.Guarantee.{Guarantee}
use Rattle.model.specs.Broker.{Broker}
use Rattle.model.specs.declared.obstacles.Obstacle.{Obstacle}
use Rattle.model.specs.declared.messages.User.{User}
use Rattle.reloading.specs.Obstacles.{Judges}

-- whatever users `new` has: `o` is the first obstacle to a reload from `old` to `new` and `gs`, or `None` if there is none
abbrev pub ReportsObstacle : Topology → Broker → Topology → List Guarantee → Option Obstacle → Type 0
ReportsObstacle old b new gs o = (users : List User) → Judges old (record { topology = new; guarantees = gs; users = users }) b o
