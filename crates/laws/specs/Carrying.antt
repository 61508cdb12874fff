-- What is in queues can be given out, and what is sent can be put out.
use Rattle.std.specs.Prelude.{ℕ, List}
use Rattle.std.specs.List.{AllByRecursion}
use Rattle.model.specs.Topology.{Topology, IsWellFormed}
use Rattle.model.specs.Broker.{Broker}
use Rattle.model.specs.Step.{Acts}
use Rattle.model.specs.Run.{empty_broker}
use Rattle.model.specs.Arrivals.{IsSaid}
use Rattle.model.specs.Sending.{AreCarried, IsAddressed, AreOwn}
use Rattle.model.specs.declared.events.Send.{Send}
use Rattle.model.specs.declared.events.Event.{Event}
use Rattle.model.specs.declared.notes.Note.{Note}

-- In the empty broker each message can be given out, and each event keeps this, under a well-formed topology.
pub record MessagesStayCarried : Type 0 where
  pub empty : AreCarried empty_broker
  pub acts : (t : Topology) (old new : Broker) (e : Event) (sends : List Send) (notes : List Note) → IsWellFormed t → IsSaid e → AreCarried old
      → Acts t old e sends notes new → AreCarried new

-- If each message in a queue can be given out, what is sent at an event can be put out, provided that
-- each send goes to connection `c` on a channel that a frame can name, with a method that has a spelling.
abbrev pub SendsAreOwn : Type 0
SendsAreOwn = (t : Topology) (old new : Broker) (c : ℕ) (e : Event) (sends : List Send) (notes : List Note)
    → IsSaid e → AreCarried old → Acts t old e sends notes new → AllByRecursion (IsAddressed c) sends → AreOwn c sends
