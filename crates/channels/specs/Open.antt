-- An open channel as this crate has it, with queues by index, and as the model has it, with queues by name.
use Rattle.std.specs.Prelude.{◌≡◌, ℕ, ◌+◌, ◌-◌, List, [], ◌∷◌, ◌++◌, map, filter, count_by, slice_index_or}
use Rattle.std.specs.Prelude.{not, Bool, true, false, Option, Some, None, option_map, Result, Ok, Err}
use Rattle.model.specs.Words.{Text}
use Rattle.model.specs.Topology.{IsIn}
use Rattle.model.specs.Broker as seen
use Rattle.model.specs.Settling.{kept}
use Rattle.model.specs.Consuming.{tag_for, with_consumer, may_take}
use Rattle.model.specs.Step.{Refusal, Of_connection, refusal_of_consumer}
use Rattle.model.specs.declared.methods.Consume.{Consume}
use Rattle.model.specs.declared.methods.Qos.{Qos}
use Rattle.model.specs.declared.messages.Taker.{Taker}
use Rattle.channels.specs.Outstanding.{tag_of}
use Rattle.channels.specs.CountedConsumers.{is_named, takes_from}
use Rattle.channels.specs.Deliveries.{Given, with_limit, with_given}
use Rattle.model.specs.Placed.{outstanding_in}
use Rattle.channels.specs.declared.consumers.Consumer.{Consumer}
use Rattle.channels.specs.declared.consumers.ConsumerRefusal.{ConsumerRefusal}
use Rattle.channels.specs.declared.consumers.ConsumerRefusal.TheVariants.{InUse, TooMany, Spent}
use Rattle.channels.specs.declared.consumers.ConsumeError.{ConsumeError}
use Rattle.channels.specs.declared.consumers.ConsumeError.TheVariants.{Refused, Memory}

-- an open channel
pub record Open : Type 0 where
  -- the last confirm number, if the channel is in confirm mode (RabbitMQ, "Publisher Confirms")
  pub confirm : Option ℕ
  -- whether a close was sent, and close-ok is awaited
  pub is_closing : Bool
  pub given : Given

-- the channel with the prefetch that a qos sets (AMQP 0-9-1, basic.qos)
abbrev pub with_qos : Open → Qos → Open
with_qos ch m = record ch { given = with_limit ch.given m.prefetch_count m.global }

-- a message of the queue at this index was given out under the next tag, and is unacknowledged (AMQP 0-9-1, basic.get-ok)
abbrev pub given_on : Open → ℕ → ℕ → Taker → Open
given_on ch queue arrival by = record ch { given = with_given ch.given queue arrival by (ch.given.room - 1) }

-- a message that needs no acknowledgement was given out under the next tag
abbrev pub settled_on : Open → Open
settled_on ch = record ch { given = record ch.given { next_tag = ch.given.next_tag + 1 } }

-- the channel without the deliveries that `tag` settles, with spare capacity `room` (AMQP 0-9-1, basic.ack)
abbrev pub without_settled : Open → ℕ → Bool → ℕ → Open
without_settled ch tag multiple room = record ch { given = record ch.given { outstanding = kept tag_of tag multiple ch.given.outstanding; room = room } }

-- the channel without the consumers with the tag `tag`, with spare capacity `room` for consumers (AMQP 0-9-1, basic.cancel)
abbrev pub without_named : Open → Text → ℕ → Open
without_named ch tag room = record ch { given = record ch.given { consumers = filter (λ c. not (is_named tag c)) ch.given.consumers; consumer_room = room } }

-- how many of the channel's consumers take from the queue at index `queue`
abbrev pub consumers_from : ℕ → Open → ℕ
consumers_from queue ch = count_by (takes_from queue) ch.given.consumers

-- the consumer `c` as the model has it; `names` are the names of the queues, by index
abbrev pub consumer_in : List Text → Consumer → seen.Consumer
consumer_in names c = record { number = c.number; tag = c.tag; queue = slice_index_or names c.queue []; no_ack = c.no_ack; limit = c.limit }

-- the channel as the model has it, if queues have these names, by index
abbrev pub open_in : List Text → Open → seen.Channel
open_in names ch = record {
  confirm = ch.confirm;
  next_tag = ch.given.next_tag;
  next_number = ch.given.next_number;
  next_name = ch.given.next_name;
  is_closing = ch.is_closing;
  consumers = map (consumer_in names) ch.given.consumers;
  each_limit = ch.given.each_limit;
  limit = ch.given.limit;
  outstanding = map (outstanding_in names) ch.given.outstanding;
}

-- the indices of the consumers' queues, in the order in which the consumers were made
abbrev pub places_of : List Consumer → List ℕ
places_of consumers = map (λ (c : Consumer). c.queue) consumers

-- A consumer of the queue at this index was made with this tag (AMQP 0-9-1, basic.consume).
pub record IsConsumerMade (old : Open) (queue : ℕ) (m : Consume) (tag : Text) (new : Open) : Type 0 where
  -- there was no reason to refuse the consumer
  pub free : (names : List Text) → refusal_of_consumer (open_in names old) m ≡ None
  pub named : (names : List Text) → tag ≡ tag_for (open_in names old) m.consumer_tag
  -- the model's channel has the consumer, if the queue at this index has the name that the consume gives
  pub made : (names : List Text) → slice_index_or names queue [] ≡ m.queue → open_in names new ≡ with_consumer (open_in names old) m
  -- the deliveries are unchanged, and so are the queues of the other consumers
  pub outstanding : new.given.outstanding ≡ old.given.outstanding
  pub places : places_of new.given.consumers ≡ places_of old.given.consumers ++ queue ∷ []
  -- it has the next number, and is the last of the channel's consumers
  pub number : new.given.next_number ≡ old.given.next_number + 1
  pub listed : new.given.consumers ≡ old.given.consumers
      ++ record { number = old.given.next_number; tag = tag; queue = queue; no_ack = m.no_ack; limit = old.given.each_limit } ∷ []

-- the refusal of a consumer as the model has it: its reply code, which closes the connection
abbrev pub consumer_refusal : ConsumerRefusal → Refusal
consumer_refusal InUse = Of_connection 530
consumer_refusal TooMany = Of_connection 506
consumer_refusal Spent = Of_connection 541

-- the reason against one more consumer, or `None` if there is none
abbrev pub JudgesConsumer : Open → Consume → Option ConsumerRefusal → Type 0
JudgesConsumer ch m against = (names : List Text) → refusal_of_consumer (open_in names ch) m ≡ option_map consumer_refusal against

-- what each result of making a consumer means: it was made with this tag; or it was refused; or an allocation failed, and there is no reason
-- against it. If none was made nothing changed.
abbrev pub MakesConsumer : Open → ℕ → Consume → Result Text ConsumeError → Open → Type 0
MakesConsumer old queue m (Ok tag) new = IsConsumerMade old queue m tag new
MakesConsumer old queue m (Err (Refused refusal)) new = JudgesConsumer old m (Some refusal) × (new ≡ old)
MakesConsumer old queue m (Err Memory) new = JudgesConsumer old m None × (new ≡ old)

-- `k` is the channel's only consumer with this number, and may be given one more message.
pub record IsTaker (ch : Open) (number : ℕ) (k : Consumer) : Type 0 where
  pub numbered : k.number ≡ number
  pub listed : IsIn k ch.given.consumers
  -- the model's channel has `k`, if the queues have these names
  pub its : (names : List Text) → IsIn (consumer_in names k) (open_in names ch).consumers
  pub only : (names : List Text) (other : seen.Consumer) → IsIn other (open_in names ch).consumers → other.number ≡ number → other ≡ consumer_in names k
  pub may : (names : List Text) → may_take (open_in names ch) (consumer_in names k) ≡ true

-- `k` is the channel's only consumer with this number.
pub record IsOne (ch : Open) (number : ℕ) (k : Consumer) : Type 0 where
  pub numbered : k.number ≡ number
  pub listed : IsIn k ch.given.consumers
  -- the model's channel has it, if queues have these names
  pub its : (names : List Text) → IsIn (consumer_in names k) (open_in names ch).consumers
  pub only : (names : List Text) (other : seen.Consumer) → IsIn other (open_in names ch).consumers → other.number ≡ number → other ≡ consumer_in names k

-- no consumer with this number may be given one more message
abbrev pub HasNoTaker : Open → ℕ → Type 0
HasNoTaker ch number = (names : List Text) (k : seen.Consumer) → IsIn k (open_in names ch).consumers → k.number ≡ number → may_take (open_in names ch) k ≡ false

-- the result is the consumer with this number if it may be given one more message, and `None` if it may not
abbrev pub ReturnsTaker : Open → ℕ → Option Consumer → Type 0
ReturnsTaker ch number (Some k) = IsTaker ch number k
ReturnsTaker ch number None = HasNoTaker ch number
