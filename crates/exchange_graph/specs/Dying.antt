-- One dead-letter step, by names. Source: RabbitMQ, "Dead Letter Exchanges".
use Rattle.std.specs.Prelude.{◌≡◌, Option, Some, None, unwrap_or}
use Rattle.model.specs.Words.{Text}
use Rattle.model.specs.Topology.{Topology}
use Rattle.model.specs.Routing.{Dies}
use Rattle.model.specs.declared.topologies.DeclaredQueue.{DeclaredQueue}
use Rattle.exchange_graph.specs.Targets.{AreTargets}
use Rattle.exchange_graph.specs.declared.dying.DeadLetter.{DeadLetter}
use Rattle.exchange_graph.specs.declared.dying.DeadRoute.{DeadRoute}

-- A message with routing key `key` that dies in `queue` goes to `exchange` under the key `onward`: the queue's dead-letter routing key, or
-- `key` if it has none.
pub record IsDeadLetter (t : Topology) (queue key exchange onward : Text) : Type 0 where
  pub last : DeclaredQueue
  pub dies : Dies t queue exchange last
  pub under : onward ≡ unwrap_or last.dead_letter_key key

-- a message that dies in the queue of this name goes nowhere
abbrev pub EndsHere : Topology → Text → Type 0
EndsHere t queue = (exchange : Text) (last : DeclaredQueue) → Dies t queue exchange last → ⊥

-- `LeavesFor letter t queue key`: `letter` is the dead letter of a message with `key` that dies in `queue`, or `None` if it goes nowhere
abbrev pub LeavesFor : Option DeadLetter → Topology → Text → Text → Type 0
LeavesFor (Some letter) t queue key = IsDeadLetter t queue key letter.exchange.now letter.key.now
LeavesFor None t queue key = EndsHere t queue

-- One death leads a message with `key` from `queue` into exactly the queues of `route`, under its key.
pub record IsDeadRoute (t : Topology) (queue key : Text) (route : DeadRoute) : Type 0 where
  pub exchange : Text
  pub letter : IsDeadLetter t queue key exchange route.key.now
  pub targets : AreTargets t exchange route.key.now route.queues.items

-- `GoesOnTo route t queue key`: `route` is where one death leads, or `None` if the message goes nowhere
abbrev pub GoesOnTo : Option DeadRoute → Topology → Text → Text → Type 0
GoesOnTo (Some route) t queue key = IsDeadRoute t queue key route
GoesOnTo None t queue key = EndsHere t queue
