-- Where messages are. Under one topology each came to its queue by the route of its publish
-- and by deaths. Through reloads, no message enters a queue that a guarantee forbids it.
use Rattle.std.specs.Prelude.{List}
use Rattle.model.specs.Topology.{Topology}
use Rattle.model.specs.Broker.{Broker}
use Rattle.model.specs.Step.{Acts}
use Rattle.model.specs.State.{Config}
use Rattle.model.specs.Run.{AreCounted, empty_broker}
use Rattle.model.specs.Arrivals.{IsSaid}
use Rattle.model.specs.Tracing.{AreTraced, AreSafe, AreKept, NoneSurvived}
use Rattle.model.specs.Reloading.{HasNoObstacle, with_all_survived}
use Rattle.model.specs.Headline.{IsSound}
use Rattle.model.specs.declared.events.Send.{Send}
use Rattle.model.specs.declared.events.Event.{Event}
use Rattle.model.specs.declared.notes.Note.{Note}

-- In the empty broker messages are traced, and each event under the topology keeps this.
pub record MessagesStayTraced : Type 0 where
  pub empty : (t : Topology) → AreTraced t empty_broker
  pub acts : (t : Topology) (old new : Broker) (e : Event) (sends : List Send) (notes : List Note) → IsSaid e → AreCounted old → AreTraced t old
      → Acts t old e sends notes new → AreTraced t new

-- If messages are traced, none is in a queue that a guarantee forbids it, nor can dead letters bring it to one.
abbrev pub TracedAreSafe : Type 0
TracedAreSafe = (f : Config) (b : Broker) → IsSound f → AreTraced f.topology b → AreSafe f.topology f.guarantees b

-- In the empty broker each message may be in its queue, and each event under a sound configuration keeps this.
pub record MessagesStayKept : Type 0 where
  pub empty : (f : Config) → AreKept f empty_broker
  pub acts : (f : Config) (old new : Broker) (e : Event) (sends : List Send) (notes : List Note) → IsSound f → IsSaid e → AreCounted old
      → AreKept f old → Acts f.topology old e sends notes new → AreKept f new

-- After a reload without an obstacle, each message may be in its queue under the configuration that the reload put in force.
abbrev pub ReloadsKeep : Type 0
ReloadsKeep = (f g : Config) (b : Broker) → AreKept f b → HasNoObstacle f.topology g b → AreKept g (with_all_survived b)

-- No message of the empty broker is marked as one that was in a queue when a reload was done, and no event marks one.
pub record NoEventMarks : Type 0 where
  pub empty : NoneSurvived empty_broker
  pub acts : (t : Topology) (old new : Broker) (e : Event) (sends : List Send) (notes : List Note) → NoneSurvived old → Acts t old e sends notes new
      → NoneSurvived new

-- If each message may be in its queue and none is marked, none is in a queue that a guarantee forbids it, nor can dead letters bring it to one.
abbrev pub KeptAreSafe : Type 0
KeptAreSafe = (f : Config) (b : Broker) → AreKept f b → NoneSurvived b → AreSafe f.topology f.guarantees b
