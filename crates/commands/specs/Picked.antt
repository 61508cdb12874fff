-- Which delivery is made.
use Rattle.std.specs.Prelude.{◌≡◌, ◌<◌, ◌≤◌, ℕ, List, false, Option, Some, None, length}
use Rattle.model.specs.Topology.{Topology, IsIn}
use Rattle.model.specs.Broker as seen
use Rattle.model.specs.Broker.{Broker}
use Rattle.model.specs.Consuming.{MayTake, CanDeliver}
use Rattle.model.specs.Naming.{AreNamed}
use Rattle.model.specs.Sending.{AreCarried}
use Rattle.model.specs.Step.{IsDelivery}
use Rattle.model.specs.declared.events.Send.{Send}
use Rattle.model.specs.declared.notes.Note.{Note}
use Rattle.exchange_graph.specs.Marks.{queue_name}
use Rattle.depot.specs.Store.{HasReady}
use Rattle.channels.specs.Open.{consumer_in}
use Rattle.channels.specs.declared.consumers.Consumer.{Consumer}
use Rattle.replies.specs.Sent.{AreAddressed}
use Rattle.commands.specs.State.{Kept, broker_of, topology_kept, names_of}
use Rattle.commands.specs.NewConsumers.{consumer_kept, has_consumer}
use Rattle.commands.specs.declared.picks.Pick.{Pick}
use Rattle.commands.specs.declared.picks.Taking.{Taking}
use Rattle.commands.specs.declared.picks.Taking.TheVariants.{Gone, Nothing, From}

-- a delivery to this consumer can be made
abbrev pub IsPick : Broker → Pick → Type 0
IsPick b p = (made : CanDeliver b p.connection) × (made.number ≡ p.channel) × (made.consumer.number ≡ p.number)

-- A delivery to the consumer `p` is made: it is on the channel of `p`, to the consumer with the number of `p`.
pub record DeliversTo (old : Broker) (p : Pick) (sends : List Send) (notes : List Note) (new : Broker) : Type 0 where
  pub delivery : IsDelivery old p.connection sends notes new
  pub channel : delivery.made.number ≡ p.channel
  pub consumer : delivery.made.consumer.number ≡ p.number

-- if each message can be encoded (`AreCarried`), and consumers have tags (`AreNamed`), each of `sends` is for `c`, by a method that can be encoded
abbrev pub AddressesTo : Topology → Broker → ℕ → List Send → Type 0
AddressesTo t b c sends = AreCarried b → AreNamed t b → AreAddressed c sends

-- A delivery to the consumer `p` can be made from the queue at index `place`.
pub record IsPickFrom (kept : Kept) (place : ℕ) (p : Pick) : Type 0 where
  pub pick : IsPick (broker_of kept) p
  pub within : place < length (topology_kept kept).queues
  pub named : queue_name (topology_kept kept) place ≡ pick.0.consumer.queue

-- `place` is an index at or after `from` whose queue has a ready message, and no delivery can be made from a queue between.
pub record IsFirstPicked (kept : Kept) (from place : ℕ) : Type 0 where
  pub least : from ≤ place
  pub within : place < length (topology_kept kept).queues
  pub ready : HasReady kept.store place
  pub before : (at : ℕ) (p : Pick) → from ≤ at → at < place → IsPickFrom kept at p → ⊥

-- an index as `IsFirstPicked` says, or `None` if no delivery can be made from a queue at or after `from`
abbrev pub IsNextPicked : Kept → ℕ → Option ℕ → Type 0
IsNextPicked kept from (Some place) = IsFirstPicked kept from place
IsNextPicked kept from None = (at : ℕ) (p : Pick) → from ≤ at → IsPickFrom kept at p → ⊥

-- this consumer can't take a message now, or doesn't exist
abbrev pub CannotTake : Broker → Pick → Type 0
CannotTake b p = (ch : seen.Channel) (k : seen.Consumer) → MayTake b p.connection p.channel ch k → k.number ≡ p.number → ⊥

-- `k` is the consumer `p`; it can take a message now, from a queue that exists, and no other consumer has its numbers.
pub record TakesAs (kept : Kept) (p : Pick) (k : Consumer) : Type 0 where
  pub channel : seen.Channel
  pub taker : MayTake (broker_of kept) p.connection p.channel channel (consumer_in (names_of kept) k)
  pub numbered : k.number ≡ p.number
  pub only : (other : seen.Consumer) → IsIn other channel.consumers → other.number ≡ p.number → other ≡ consumer_in (names_of kept) k
  pub within : k.queue < length (topology_kept kept).queues

-- the result is the consumer if it can take a message now, and `None` if it can't
abbrev pub ReturnsConsumer : Kept → Pick → Option Consumer → Type 0
ReturnsConsumer kept p (Some k) = TakesAs kept p k
ReturnsConsumer kept p None = CannotTake (broker_of kept) p

-- `k` is the consumer `p`; it takes from a queue that exists, and no other consumer has its numbers.
pub record IsKeptAs (kept : Kept) (p : Pick) (k : Consumer) : Type 0 where
  pub found : consumer_kept kept p ≡ Some k
  pub channel : seen.Channel
  pub there : (broker_of kept).channel p.connection p.channel ≡ Some channel
  pub its : IsIn (consumer_in (names_of kept) k) channel.consumers
  pub numbered : k.number ≡ p.number
  pub only : (other : seen.Consumer) → IsIn other channel.consumers → other.number ≡ p.number → other ≡ consumer_in (names_of kept) k
  pub within : k.queue < length (topology_kept kept).queues

-- The consumer doesn't exist; or it takes from the queue at this index, and can't take a message now; or it can take a message from the queue at
-- this index.
abbrev pub ReturnsTaking : Kept → Pick → Taking → Type 0
ReturnsTaking kept p Gone = (has_consumer kept p ≡ false) × CannotTake (broker_of kept) p
ReturnsTaking kept p (Nothing place) = (k : Consumer) × IsKeptAs kept p k × (k.queue ≡ place) × CannotTake (broker_of kept) p
ReturnsTaking kept p (From place) = (k : Consumer) × TakesAs kept p k × (k.queue ≡ place)
