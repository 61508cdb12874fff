-- The consumers of each channel, by their tags and numbers. Source: AMQP 0-9-1, basic.consume, "consumer-tag"; numbers and limits are own.
use Rattle.std.specs.Prelude.{◌≡◌, ◌<◌, ◌≤◌, ℕ, length, true, false, Some, is_some}
use Rattle.std.specs.Str.{bytes_eq}
use Rattle.std.specs.List.{AllByRecursion, AllPairs}
use Rattle.model.specs.Topology.{Topology}
use Rattle.model.specs.Broker.{Consumer, Outstanding, Channel, Broker, queue_named}
use Rattle.model.specs.declared.messages.Taker.{Taker}
use Rattle.model.specs.declared.messages.Taker.TheVariants as taker

-- The taker is a get, or a consumer with a number below `next`.
abbrev pub IsGivenBelow : ℕ → Taker → Type 0
IsGivenBelow next taker.Get = Unit {0}
IsGivenBelow next (taker.Consumer number) = number < next

-- The consumers of a channel: they take from queues of the topology `t`, have distinct tags and rising numbers, and are few.
pub record AreNamedOn (t : Topology) (ch : Channel) : Type 0 where
  -- Each takes from a queue of the topology.
  pub queues : AllByRecursion (λ (k : Consumer). is_some (queue_named t.queues k.queue) ≡ true) ch.consumers
  -- The tag of each has a spelling, and no two have the same tag.
  pub spelled : AllByRecursion (λ (k : Consumer). length k.tag < 256) ch.consumers
  pub distinct : AllPairs (λ (a b : Consumer). bytes_eq a.tag b.tag ≡ false) ch.consumers
  -- Their numbers rise, and each is less than `next_number`, the number of the next consumer.
  pub rising : AllPairs (λ (a b : Consumer). a.number < b.number) ch.consumers
  pub before : AllByRecursion (λ (k : Consumer). k.number < ch.next_number) ch.consumers
  -- Each unacknowledged message was given to a get or to a consumer whose number is already used, so the next consumer begins with none.
  pub given : AllByRecursion (λ (o : Outstanding). IsGivenBelow ch.next_number o.by) ch.outstanding
  -- The channel has at most 256 consumers.
  pub few : length ch.consumers ≤ 256

-- The consumers of every channel of the broker are named and numbered as `AreNamedOn` says, under the topology `t`.
abbrev pub AreNamed : Topology → Broker → Type 0
AreNamed t b = (c h : ℕ) (ch : Channel) → b.channel c h ≡ Some ch → AreNamedOn t ch
