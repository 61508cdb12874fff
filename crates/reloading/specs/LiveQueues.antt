-- What is in the queues of a broker and who consumes from them, by the indices of the queues (own).
use Rattle.std.specs.Prelude.{◌≡◌, ℕ, List, Bool, true, Some, ◌↔◌, slice_get}
use Rattle.model.specs.Words.{Text}
use Rattle.model.specs.Topology.{Topology, IsIn, queue_names}
use Rattle.model.specs.Broker.{Broker, Channel, Consumer}
use Rattle.model.specs.declared.messages.Entry.{Entry}

-- Some channel has a consumer of the queue.
pub record IsConsumed (b : Broker) (q : Text) : Type 0 where
  pub connection : ℕ
  pub number : ℕ
  pub channel : Channel
  pub there : b.channel connection number ≡ Some channel
  pub consumer : Consumer
  pub among : IsIn consumer channel.consumers
  pub takes : consumer.queue ≡ q

-- `entries` and `consumed` are what the broker has for each queue of the topology, by index: its entries, and whether a consumer takes from it.
pub record ShowsQueues (t : Topology) (entries : ℕ → List Entry) (consumed : ℕ → Bool) (b : Broker) : Type 0 where
  pub queue : (place : ℕ) (q : Text) → slice_get (queue_names t.queues) place ≡ Some q → b.queue q ≡ entries place
  pub consumers : (place : ℕ) (q : Text) → slice_get (queue_names t.queues) place ≡ Some q → (consumed place ≡ true) ↔ IsConsumed b q
