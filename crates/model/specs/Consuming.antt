-- Consumers of a channel: how they are made and cancelled, and what can be delivered to them. Source: AMQP 0-9-1, section
-- 1.5, basic.consume, basic.cancel and basic.deliver; RabbitMQ, "Consumer Prefetch"; the tags that the server makes are own.
use Rattle.std.specs.Prelude.{
  ◌≡◌,
  ◌+◌,
  ◌-◌,
  ℕ,
  zero,
  suc,
  List,
  [],
  ◌∷◌,
  ◌++◌,
  filter,
  not,
  Bool,
  true,
  false,
  nat_le,
  ◌&&◌,
  if◌then◌else◌,
  Some,
  codes,
  decimal,
}
use Rattle.std.specs.List.{list_any}
use Rattle.std.specs.Str.{bytes_eq}
use Rattle.model.specs.Words.{Text}
use Rattle.model.specs.Topology.{IsIn}
use Rattle.model.specs.Broker.{Consumer, Outstanding, Channel, Connection, Broker}
use Rattle.model.specs.Prefetch.{may_hold, has_tag_left}
use Rattle.model.specs.Deliveries.{first_ready}
use Rattle.model.specs.declared.messages.Entry.{Entry}
use Rattle.model.specs.declared.messages.Taker.{Taker}
use Rattle.model.specs.declared.methods.Consume.{Consume}

-- ---- consumer tags

-- Whether the consumer has this tag.
abbrev pub is_tagged : Text → Consumer → Bool
is_tagged tag k = bytes_eq k.tag tag

-- Whether one of the consumers has this tag.
abbrev pub is_in_use : Text → List Consumer → Bool
is_in_use tag consumers = list_any (is_tagged tag) consumers

-- The consumer tag that the server makes of the number `n`: `amq.ctag-` and the number (own).
abbrev pub server_tag : ℕ → Text
server_tag n = codes "amq.ctag-" ++ decimal n

-- The first number from `n` on whose server tag no consumer has. The first argument is how many numbers
-- are tried; if all of them are in use, this is the number after them.
unfoldable pub first_free : ℕ → List Consumer → ℕ → ℕ
first_free zero consumers n = n
first_free (suc more) consumers n = if is_in_use (server_tag n) consumers then first_free more consumers (n + 1) else n

-- The number of the tag that the server makes next on a channel. If none is left it is the greatest 64-bit number, which is never given (own).
abbrev pub next_free : Channel → ℕ
next_free ch = first_free (18446744073709551615 - ch.next_name) ch.consumers ch.next_name

-- The tag of the consumer that is made: the one that the client gives, or the server's next if it gives none (AMQP 0-9-1, basic.consume, "consumer-tag").
abbrev pub tag_for : Channel → Text → Text
tag_for ch [] = server_tag (next_free ch)
tag_for ch (b ∷ bs) = b ∷ bs

-- The channel's `next_name` after a consumer is made: one more than the number in its tag if the server made that, and otherwise unchanged.
abbrev pub name_after : Channel → Text → ℕ
name_after ch [] = next_free ch + 1
name_after ch (b ∷ bs) = ch.next_name

-- Whether the client gives a tag that is in use on the channel.
abbrev pub is_tag_taken : Channel → Text → Bool
is_tag_taken ch [] = false
is_tag_taken ch (b ∷ bs) = is_in_use (b ∷ bs) ch.consumers

-- Whether the client gives no tag, and the server has none left.
abbrev pub has_no_tag_left : Channel → Text → Bool
has_no_tag_left ch [] = nat_le 18446744073709551615 (next_free ch)
has_no_tag_left ch (b ∷ bs) = false

-- ---- consumers made and cancelled

-- The consumer that a consume makes: it has the next number, and the prefetch of consumers that are made now.
abbrev pub consumer_of : Channel → Consume → Consumer
consumer_of ch m = record { number = ch.next_number; tag = tag_for ch m.consumer_tag; queue = m.queue; no_ack = m.no_ack; limit = ch.each_limit }

-- The channel with the consumer that a consume makes.
abbrev pub with_consumer : Channel → Consume → Channel
with_consumer ch m = record ch { next_number = ch.next_number + 1; next_name = name_after ch m.consumer_tag; consumers = ch.consumers ++ consumer_of ch m ∷ [] }

-- The channel without the consumer with this tag, if there is one; its unacknowledged messages stay unacknowledged (AMQP 0-9-1, basic.cancel).
abbrev pub without_consumer : Channel → Text → Channel
without_consumer ch tag = record ch { consumers = filter (λ k. not (is_tagged tag k)) ch.consumers }

-- ---- what can be delivered

-- The taker of an unacknowledged message.
abbrev pub taker_of : Outstanding → Taker
taker_of o = o.by

-- Whether the consumer `k` may be given one more message on the channel: a delivery tag is left,
-- and the consumer needs no acknowledgement, or neither its prefetch nor the channel's is used up.
abbrev pub may_take : Channel → Consumer → Bool
may_take ch k = has_tag_left ch.next_tag && may_hold taker_of ch.limit k.no_ack k.limit k.number ch.outstanding

-- The consumer `k` may take a message now: it is on channel `h` of connection `c`, which runs and is not paused, and the channel doesn't await close-ok.
pub record MayTake (b : Broker) (c h : ℕ) (ch : Channel) (k : Consumer) : Type 0 where
  pub connection : Connection
  pub runs : b.connection c ≡ Some connection
  pub awake : connection.is_paused ≡ false
  pub there : b.channel c h ≡ Some ch
  pub open_still : ch.is_closing ≡ false
  pub its : IsIn k ch.consumers
  pub may : may_take ch k ≡ true

-- A delivery that can be made to connection `c`: the first ready message of a queue
-- goes to a consumer of it that may take it. If there are several, any one may be made.
pub record CanDeliver (b : Broker) (c : ℕ) : Type 0 where
  pub number : ℕ
  pub channel : Channel
  pub consumer : Consumer
  pub taker : MayTake b c number channel consumer
  pub entry : Entry
  pub first : first_ready (b.queue consumer.queue) ≡ Some entry
