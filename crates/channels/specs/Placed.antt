-- Unacknowledged deliveries are from queues that exist, and consumers take from queues that exist and are numbered in order.
use Rattle.std.specs.Prelude.{◌<◌, List, length, All}
use Rattle.model.specs.Topology.{Topology}
use Rattle.channels.specs.CountedConsumers.{NumbersRise}
use Rattle.channels.specs.Open.{Open}
use Rattle.model.specs.Placed.{AreWithin}
use Rattle.channels.specs.declared.consumers.Consumer.{Consumer}

-- each of these consumers takes from a queue that exists
abbrev pub TakeWithin : Topology → List Consumer → Type 0
TakeWithin t consumers = All (λ (k : Consumer). k.queue < length t.queues) consumers

-- The channel's unacknowledged deliveries are from queues that exist, and its consumers take from queues that exist. Their numbers ascend.
pub record IsPlaced (t : Topology) (ch : Open) : Type 0 where
  pub outstanding : AreWithin t ch.given.outstanding
  pub consumers : TakeWithin t ch.given.consumers
  pub rise : NumbersRise ch.given.consumers
