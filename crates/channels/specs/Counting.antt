-- How many consumers take from a queue.
use Rattle.std.specs.Prelude.{◌≡◌, ℕ, List, [], ◌∷◌, Bool, Option, Some, None, AllPairs, sum_by, min, nat_lt}
use Rattle.std.specs.Map.{values_of}
use Rattle.model.specs.Topology.{IsIn}
use Rattle.model.specs.Step.{greatest}
use Rattle.model.specs.Declaring.{ChannelName}
use Rattle.channels.specs.Open.{Open, consumers_from}
use Rattle.channels.specs.declared.consumers.Consumer.{Consumer}
use Rattle.channels.specs.RunningConnections.{Running, channel_of}

-- how many consumers of a channel take from the queue at this index; 0 if the channel is not open
abbrev pub consumers_at : ℕ → Option Open → ℕ
consumers_at queue None = 0
consumers_at queue (Some ch) = consumers_from queue ch

-- how many consumers on all channels of a connection take from the queue at index `queue`
abbrev pub consumers_counted : ℕ → Running → ℕ
consumers_counted queue l = sum_by (consumers_at queue) l.channels

-- no entry occurs twice
abbrev pub AllDistinct : {X : Type 0} → List X → Type 0
AllDistinct [] = Unit {0}
AllDistinct (x ∷ xs) = (IsIn x xs → ⊥) × AllDistinct xs

-- A list of distinct channels has every open one.
pub record HasChannels (connections : List (ℕ × Running)) : Type 0 where
  pub channels : List ChannelName
  pub all : (c h : ℕ) (ch : Open) → channel_of connections c h ≡ Some ch → IsIn (record { connection = c; number = h }) channels
  pub distinct : AllPairs (λ (x y : ChannelName). x ≡ y → ⊥) channels

-- `count` is the number of consumers on all channels together that take from the queue at index `queue`, at most 2^64 - 1.
pub record CountsConsumers (connections : List (ℕ × Running)) (queue count : ℕ) : Type 0 where
  -- a list of distinct channels that has every open one
  pub channels : List ChannelName
  pub all : (c h : ℕ) (ch : Open) → channel_of connections c h ≡ Some ch → IsIn (record { connection = c; number = h }) channels
  pub distinct : AllPairs (λ (x y : ChannelName). x ≡ y → ⊥) channels
  pub counted : count ≡ min (sum_by (λ (x : ChannelName). consumers_at queue (channel_of connections x.connection x.number)) channels) greatest

-- how many consumers of all connections take from the queue at index `queue`
abbrev pub all_consumers : List (ℕ × Running) → ℕ → ℕ
all_consumers connections queue = sum_by (consumers_counted queue) (values_of connections)

-- some consumer takes from the queue at this index
abbrev pub is_consumed : List (ℕ × Running) → ℕ → Bool
is_consumed connections queue = nat_lt 0 (all_consumers connections queue)

-- A consumer of some channel takes from the queue at this index.
pub record HasTaker (connections : List (ℕ × Running)) (queue : ℕ) : Type 0 where
  pub connection : ℕ
  pub number : ℕ
  pub channel : Open
  pub there : channel_of connections connection number ≡ Some channel
  pub consumer : Consumer
  pub among : IsIn consumer channel.given.consumers
  pub takes : consumer.queue ≡ queue
