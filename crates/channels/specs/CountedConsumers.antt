-- The consumers of a channel, each with the number of its unacknowledged messages (own).
use Rattle.std.specs.Prelude.{◌≡◌, ◌<◌, ◌+◌, ◌-◌, ℕ, List, [], ◌∷◌, map, find, count_by, length, slice_index_or}
use Rattle.std.specs.Prelude.{Bool, true, false, ◌==◌, ◌&&◌, ◌||◌, if◌then◌else◌, Option, Some, None}
use Rattle.std.specs.List.{AllByRecursion}
use Rattle.std.specs.Str.{bytes_eq}
use Rattle.model.specs.Words.{Text}
use Rattle.model.specs.Prefetch.{is_to, is_below, count_to, count_given}
use Rattle.model.specs.declared.messages.Taker.{Taker}
use Rattle.model.specs.declared.messages.Taker.TheVariants.{Get, Consumer as To_consumer}
use Rattle.channels.specs.Outstanding.{taker_of}
use Rattle.model.specs.declared.deliveries.Delivery.{Delivery}
use Rattle.channels.specs.declared.consumers.Consumer.{Consumer}
use Rattle.channels.specs.declared.consumers.CountedConsumer.{CountedConsumer}

-- the consumers; the number of each one's unacknowledged messages, and that of all together; and the spare capacity for consumers
pub record ConsumerCounts : Type 0 where
  pub consumers : List Consumer
  pub held : List ℕ
  pub given : ℕ
  pub room : ℕ

-- the consumers, without their counts
abbrev pub consumers_of : List CountedConsumer → List Consumer
consumers_of consumers = map (λ (s : CountedConsumer). s.consumer) consumers

-- the consumer with this number
abbrev pub consumer_numbered : ℕ → List Consumer → Option Consumer
consumer_numbered number consumers = find (λ (c : Consumer). c.number == number) consumers

-- the counts of the consumers
abbrev pub counts_of : List CountedConsumer → List ℕ
counts_of consumers = map (λ (s : CountedConsumer). s.held) consumers

-- the consumer has this number
abbrev pub is_numbered : ℕ → CountedConsumer → Bool
is_numbered number s = s.consumer.number == number

-- the consumer has this tag
abbrev pub is_named : Text → Consumer → Bool
is_named name c = bytes_eq c.tag name

-- the consumer takes from the queue at this index
abbrev pub takes_from : ℕ → Consumer → Bool
takes_from queue c = c.queue == queue

-- the counted consumer has this tag
abbrev pub has_name : Text → CountedConsumer → Bool
has_name name s = is_named name s.consumer

-- the consumer's count after one more delivery to the taker `by`
abbrev pub counted_in : Taker → CountedConsumer → CountedConsumer
counted_in by s = if is_to s.consumer.number by then record s { held = s.held + 1 } else s

-- the consumer's count after the deliveries `gone` were settled
abbrev pub counted_out : List Delivery → CountedConsumer → CountedConsumer
counted_out gone s = record s { held = s.held - count_to taker_of s.consumer.number gone }

-- the consumer's count after one delivery to the taker `by` was settled
abbrev pub uncounted : Taker → CountedConsumer → CountedConsumer
uncounted by s = if is_to s.consumer.number by then record s { held = s.held - 1 } else s

-- the consumer exists, and needs no acknowledgement, or neither its own prefetch nor the channel's, `limit`, is used up
abbrev pub may_held : ℕ → ℕ → Option CountedConsumer → Bool
may_held limit given None = false
may_held limit given (Some s) = s.consumer.no_ack || (is_below s.consumer.limit s.held && is_below limit given)

-- the consumer is awake, as `Awake` says of the index of its queue and its number, if it may be given one more message
abbrev pub IsWoken : ℕ → ℕ → (ℕ → ℕ → Type 0) → CountedConsumer → Type 0
IsWoken limit given Awake s = may_held limit given (Some s) ≡ true → Awake s.consumer.queue s.consumer.number

-- the consumer, if it exists and `may_held` says that it may be given one more message
abbrev pub taker_held : ℕ → ℕ → Option CountedConsumer → Option Consumer
taker_held limit given None = None
taker_held limit given (Some s) = if may_held limit given (Some s) then Some s.consumer else None

-- The counts are right for the unacknowledged deliveries `outstanding`.
pub record CountsAgree (s : ConsumerCounts) (outstanding : List Delivery) : Type 0 where
  pub each : s.held ≡ map (λ (c : Consumer). count_to taker_of c.number outstanding) s.consumers
  pub all : s.given ≡ count_given taker_of outstanding

-- the consumers' numbers ascend, and each is below `next`
abbrev pub AreNumbered : ℕ → List Consumer → Type 0
AreNumbered next [] = Unit {0}
AreNumbered next (c ∷ cs) = (c.number < next) × (AllByRecursion (λ (d : Consumer). c.number < d.number) cs × AreNumbered next cs)

-- no two of the consumers have the same tag
abbrev pub TagsDiffer : List Consumer → Type 0
TagsDiffer [] = Unit {0}
TagsDiffer (c ∷ cs) = AllByRecursion (λ (d : Consumer). c.tag ≡ d.tag → ⊥) cs × TagsDiffer cs

-- the consumers' numbers ascend
abbrev pub NumbersRise : List Consumer → Type 0
NumbersRise cs = (next : ℕ) × AreNumbered next cs

-- The consumer at this index has this number.
pub record IsConsumerAt (consumers : List CountedConsumer) (number place : ℕ) : Type 0 where
  pub within : place < length consumers
  pub numbered : (d : CountedConsumer) → (slice_index_or consumers place d).consumer.number ≡ number

-- the number of the consumer to which a message was given; 0 for a get (own)
abbrev pub number_given : Taker → ℕ
number_given Get = 0
number_given (To_consumer number) = number

-- no delivery of `given` went to a consumer with a number above `most`
abbrev pub NoneAbove : ℕ → List Delivery → Type 0
NoneAbove most given = (number : ℕ) → most < number → count_to taker_of number given ≡ 0

-- delivery tag `last` is below `next_tag`, the counts are right for the deliveries `outstanding`, the consumers' numbers ascend below `next`, no
-- delivery went to a number above `most`, and the consumers' tags differ
abbrev pub TagsAndCountsAgree : ℕ → ℕ → ConsumerCounts → List Delivery → ℕ → ℕ → Type 0
TagsAndCountsAgree last next_tag s outstanding next most =
    (last < next_tag) × CountsAgree s outstanding × AreNumbered next s.consumers × NoneAbove most outstanding × TagsDiffer s.consumers

-- the deliveries `outstanding` are `gone` and `left` together: for each property `p`, the two have as many with it as `outstanding`
abbrev pub AreParts : List Delivery → List Delivery → List Delivery → Type 0
AreParts outstanding gone left = (p : Delivery → Bool) → count_by p outstanding ≡ count_by p gone + count_by p left
