-- What a client may ask about the queues that are declared. Source: AMQP 0-9-1, its XML's rule of queue.declare, "passive".
use Rattle.std.specs.Prelude.{◌≡◌, ℕ, List, AllPairs, Option, Some, None, count_by, sum_by}
use Rattle.std.specs.Str.{bytes_eq}
use Rattle.model.specs.Words.{Text}
use Rattle.model.specs.Topology.{IsIn}
use Rattle.model.specs.Broker.{Channel, Consumer, Broker}

-- A channel, by its connection and its number there.
pub record ChannelName : Type 0 where
  pub connection : ℕ
  pub number : ℕ

-- How many consumers on the channel take from `queue`; none if the channel is not open.
abbrev pub consumers_on : Text → Option Channel → ℕ
consumers_on queue None = 0
consumers_on queue (Some ch) = count_by (λ (x : Consumer). bytes_eq x.queue queue) ch.consumers

-- The queue has `count` consumers, on all channels together.
pub record HasConsumers (b : Broker) (queue : Text) (count : ℕ) : Type 0 where
  -- Every open channel is in this list, and no channel is in it twice.
  pub channels : List ChannelName
  pub all : (c h : ℕ) (ch : Channel) → b.channel c h ≡ Some ch → IsIn (record { connection = c; number = h }) channels
  pub distinct : AllPairs (λ (x y : ChannelName). x ≡ y → ⊥) channels
  pub counted : count ≡ sum_by (λ (x : ChannelName). consumers_on queue (b.channel x.connection x.number)) channels
