-- What an open channel keeps of its deliveries.
use Rattle.std.specs.Prelude.{◌⊎◌, ◌≡◌, ◌<◌, ◌≤◌, ◌+◌, ℕ, List, [], ◌∷◌, ◌++◌, length, find}
use Rattle.std.specs.Prelude.{Bool, true, false, ◌==◌, ◌&&◌, if◌then◌else◌, Option, Some, None, Result, Ok, Err}
use Rattle.std.specs.List.{list_any}
use Rattle.model.specs.Words.{Text}
use Rattle.model.specs.Step.{greatest}
use Rattle.model.specs.Topology.{IsIn}
use Rattle.model.specs.Prefetch.{may_hold, has_tag_left}
use Rattle.model.specs.declared.messages.Taker.{Taker}
use Rattle.channels.specs.Outstanding.{taker_of}
use Rattle.channels.specs.CountedConsumers.{ConsumerCounts, CountsAgree, consumer_numbered, is_named}
use Rattle.channels.specs.Names.{server_name, IsNextName, AreNamesSpent}
use Rattle.channels.specs.declared.names.Name.{Name}
use Rattle.model.specs.declared.deliveries.Delivery.{Delivery}
use Rattle.channels.specs.declared.consumers.Consumer.{Consumer}
use Rattle.channels.specs.declared.consumers.ConsumerRefusal.{ConsumerRefusal}
use Rattle.channels.specs.declared.consumers.ConsumerRefusal.TheVariants.{InUse, TooMany, Spent}
use Rattle.channels.specs.declared.consumers.ConsumeError.{ConsumeError}
use Rattle.channels.specs.declared.consumers.ConsumeError.TheVariants.{Refused, Memory}

-- delivery tags, limits, consumers, unacknowledged deliveries, and the spare capacity for deliveries and for consumers
pub record Given : Type 0 where
  pub next_tag : ℕ
  -- consumers are numbered in the order in which they are made, and no number is used twice
  pub next_number : ℕ
  -- the number of the next consumer tag that the server makes
  pub next_name : ℕ
  -- the prefetch of each consumer that is made later, and that of all consumers together; 0 is no limit (RabbitMQ, "Consumer Prefetch")
  pub each_limit : ℕ
  pub limit : ℕ
  pub consumers : List Consumer
  -- in the order of their tags
  pub outstanding : List Delivery
  pub room : ℕ
  pub consumer_room : ℕ

-- nothing was given out, and there is no consumer and no limit
abbrev pub nothing_given : ℕ → ℕ → Given
nothing_given room consumer_room = record {
  next_tag = 1;
  next_number = 1;
  next_name = 1;
  each_limit = 0;
  limit = 0;
  consumers = [];
  outstanding = [];
  room = room;
  consumer_room = consumer_room;
}

-- a message is given out under the next tag, and is unacknowledged (AMQP 0-9-1, basic.deliver, basic.get-ok)
abbrev pub with_given : Given → ℕ → ℕ → Taker → ℕ → Given
with_given g queue arrival by room = record g {
  next_tag = g.next_tag + 1;
  outstanding = g.outstanding ++ record { tag = g.next_tag; queue = queue; arrival = arrival; by = by } ∷ [];
  room = room;
}

-- a prefetch is set: of all consumers of the channel together, or of each that is made later (RabbitMQ, "Consumer Prefetch", global)
abbrev pub with_limit : Given → ℕ → Bool → Given
with_limit g count global = if global then record g { limit = count } else record g { each_limit = count }

-- the consumer exists, and neither its own prefetch nor `limit`, the channel's, is used up
abbrev pub may_of : ℕ → List Delivery → Option Consumer → Bool
may_of limit outstanding None = false
may_of limit outstanding (Some c) = may_hold taker_of limit c.no_ack c.limit c.number outstanding

-- the consumer, if it exists and `may_of` says that it may be given one more message
abbrev pub taker_among : ℕ → List Delivery → Option Consumer → Option Consumer
taker_among limit outstanding c = if may_of limit outstanding c then c else None

-- `result` is the consumer with this number, if it may be given one more message under the channel's `limit`, whatever deliveries the counts are of
abbrev pub FindsTaker : ConsumerCounts → ℕ → ℕ → Option Consumer → Type 0
FindsTaker s number limit result = (outstanding : List Delivery) → CountsAgree s outstanding
    → result ≡ taker_among limit outstanding (consumer_numbered number s.consumers)

-- each consumer that may be given one more message under the channel's `limit` is awake, as `Awake` says of the index of its queue and its
-- number, whatever deliveries the counts are of
abbrev pub WakesAble : ℕ → (ℕ → ℕ → Type 0) → ConsumerCounts → Type 0
WakesAble limit Awake s = (outstanding : List Delivery) → CountsAgree s outstanding
    → (k : Consumer) → IsIn k s.consumers → may_of limit outstanding (Some k) ≡ true → Awake k.queue k.number

-- a tag is left, and the consumer with this number is the channel's and may be given one more message
abbrev pub may_be_given : Given → ℕ → Bool
may_be_given g number = has_tag_left g.next_tag && may_of g.limit g.outstanding (find (λ (c : Consumer). c.number == number) g.consumers)

-- the consumer with this number
abbrev pub consumer_at : Given → ℕ → Option Consumer
consumer_at g number = find (λ (c : Consumer). c.number == number) g.consumers

-- the consumer with this number, if it may be given one more message
abbrev pub taker_at : Given → ℕ → Option Consumer
taker_at g number = if may_be_given g number then consumer_at g number else None

-- one more consumer, with the next number and the prefetch that is set for each (AMQP 0-9-1, basic.consume)
abbrev pub with_consumer_added : Given → Text → ℕ → Bool → ℕ → Given
with_consumer_added g name queue no_ack consumer_room = record g {
  consumer_room = consumer_room;
  next_number = g.next_number + 1;
  consumers = g.consumers ++ record { number = g.next_number; tag = name; queue = queue; no_ack = no_ack; limit = g.each_limit } ∷ [];
}

-- A consumer with this tag can be made: the tag is not in use on the channel, there are fewer than 256 consumers (own), and a number is left.
pub record CanMakeConsumer (g : Given) (name : Text) : Type 0 where
  pub free : list_any (is_named name) g.consumers ≡ false
  pub few : length g.consumers < 256
  pub left : g.next_number < greatest

-- the first reason against a consumer with the tag `name`, in this order, or `None` if there is none
abbrev pub JudgesNamed : Given → Text → Option ConsumerRefusal → Type 0
JudgesNamed g name None = CanMakeConsumer g name
JudgesNamed g name (Some InUse) = list_any (is_named name) g.consumers ≡ true
JudgesNamed g name (Some TooMany) = (list_any (is_named name) g.consumers ≡ false) × (256 ≤ length g.consumers)
JudgesNamed g name (Some Spent) = (list_any (is_named name) g.consumers ≡ false) × ((length g.consumers < 256) × (g.next_number ≡ greatest))

-- a consumer was made, and the spare capacity for further ones is at most one less
abbrev pub AddsConsumer : Given → Text → ℕ → Bool → Given → Type 0
AddsConsumer old name queue no_ack new = (new ≡ with_consumer_added old name queue no_ack new.consumer_room) × (old.consumer_room ≤ new.consumer_room + 1)

-- why a consumer without a tag of its own is refused, in this order: the channel has 256 consumers; the numbers or the server's tags are used up
abbrev pub RefusesUnnamed : Given → ConsumerRefusal → Type 0
RefusesUnnamed g InUse = ⊥
RefusesUnnamed g TooMany = 256 ≤ length g.consumers
RefusesUnnamed g Spent = (length g.consumers < 256) × ((g.next_number ≡ greatest) ⊎ AreNamesSpent g.consumers g.next_name)

-- the next tag for a consumer without a tag of its own, if one can be made; otherwise why it can't
abbrev pub NamesUnnamed : Given → Result Name ConsumerRefusal → Type 0
NamesUnnamed g (Ok name) =
    (length g.consumers < 256) × ((g.next_number < greatest) × (IsNextName g.consumers g.next_name name.number × (name.tag.bytes ≡ server_name name.number)))
NamesUnnamed g (Err refusal) = RefusesUnnamed g refusal

-- the first reason against a consumer without a tag of its own, or `None` if there is none
abbrev pub JudgesUnnamed : Given → Option ConsumerRefusal → Type 0
JudgesUnnamed g None = (length g.consumers < 256) × ((g.next_number < greatest) × ((n : ℕ) × IsNextName g.consumers g.next_name n))
JudgesUnnamed g (Some refusal) = RefusesUnnamed g refusal

-- A consumer was made with the server's next tag, which has number `n`.
pub record IsMadeUnder (old : Given) (queue : ℕ) (no_ack : Bool) (tag : Text) (new : Given) (n : ℕ) : Type 0 where
  pub next : IsNextName old.consumers old.next_name n
  pub named : tag ≡ server_name n
  pub made : new ≡ record (with_consumer_added old (server_name n) queue no_ack new.consumer_room) { next_name = n + 1 }

-- what each result of making a consumer without a tag of its own means: it was made with the next free tag, which is returned; or it was
-- refused; or an allocation failed, and there was no reason to refuse it. If no consumer was made, nothing changed.
abbrev pub ConsumesUnnamed : Given → ℕ → Bool → Result Text ConsumeError → Given → Type 0
ConsumesUnnamed old queue no_ack (Ok tag) new =
    (length old.consumers < 256) × ((old.next_number < greatest) × ((old.consumer_room ≤ new.consumer_room + 1)
    × ((n : ℕ) × IsMadeUnder old queue no_ack tag new n)))
ConsumesUnnamed old queue no_ack (Err (Refused refusal)) new = JudgesUnnamed old (Some refusal) × (new ≡ old)
ConsumesUnnamed old queue no_ack (Err Memory) new = JudgesUnnamed old None × (new ≡ old)
