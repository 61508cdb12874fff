-- What the broker does at one event. Each case names all that changes: what it doesn't name is as before. Start with `Acts`, at the end.
-- Source: AMQP 0-9-1, its XML's rules of the channel and basic classes; RabbitMQ, "Consumer Acknowledgements and Publisher Confirms".
use Rattle.std.specs.Prelude.{
  ◌≡◌,
  ◌+◌,
  ℕ,
  List,
  [],
  ◌∷◌,
  ◌++◌,
  length,
  map,
  filter,
  Bool,
  true,
  false,
  nat_lt,
  nat_le,
  not,
  ◌==◌,
  ◌&&◌,
  ◌||◌,
  if◌then◌else◌,
  Option,
  Some,
  None,
  find,
  is_some,
}
use Rattle.std.specs.List.{list_any}
use Rattle.std.specs.Str.{bytes_eq}
use Rattle.model.specs.Words.{Text}
use Rattle.model.specs.Commands.{no_publish}
use Rattle.model.specs.Topology.{Topology, queue_names}
use Rattle.model.specs.Routing.{Routes, Picks}
use Rattle.model.specs.Broker.{Outstanding, Channel, Connection, Broker, new_channel, queue_named, is_full, is_ready, with_one, with_pair, with_row}
use Rattle.model.specs.Entries.{freed, by_channel, by_connection}
use Rattle.model.specs.Settling.{is_refused, settled, kept}
use Rattle.model.specs.Prefetch.{has_tag_left}
pub use Rattle.model.specs.Entering.{entry_note, entry_notes, comes_to}
use Rattle.model.specs.Deliveries.{
  Settlement,
  Leaves,
  Returns,
  of_rejected,
  AreSettled,
  first_ready,
  ready_in,
  written_count,
  after_delivery,
  delivery_notes,
  after_purge,
  purge_notes,
}
use Rattle.model.specs.Declaring.{HasConsumers}
use Rattle.model.specs.Consuming.{tag_for, is_tag_taken, has_no_tag_left, with_consumer, without_consumer, CanDeliver}
use Rattle.model.specs.Grammar.{Ids, ids, ids_of}
use Rattle.model.specs.Headers.{no_properties}
use Rattle.model.specs.Codes.{code_text}
use Rattle.model.specs.declared.topologies.Exchange.{Exchange}
use Rattle.model.specs.Message.{Message}
use Rattle.model.specs.declared.messages.Holder.{Holder}
use Rattle.model.specs.declared.messages.Entry.{Entry}
use Rattle.model.specs.declared.contents.Content.{Content}
use Rattle.model.specs.declared.events.Send.{Send}
use Rattle.model.specs.declared.events.Send.TheVariants as send
use Rattle.model.specs.declared.methods.Publish.{Publish}
use Rattle.model.specs.declared.methods.Consume.{Consume}
use Rattle.model.specs.declared.methods.Cancel.{Cancel}
use Rattle.model.specs.declared.methods.Get.{Get}
use Rattle.model.specs.declared.methods.Purge.{Purge}
use Rattle.model.specs.declared.methods.ExchangeDeclare.{ExchangeDeclare as DeclaresExchange}
use Rattle.model.specs.declared.methods.QueueDeclare.{QueueDeclare as DeclaresQueue}
use Rattle.model.specs.declared.methods.Qos.{Qos}
use Rattle.model.specs.declared.methods.Method.{Method}
use Rattle.model.specs.declared.methods.Method.TheVariants.{
  ConnectionClose,
  ConnectionCloseOk,
  ChannelOpen,
  ChannelOpenOk,
  ChannelFlow,
  ChannelFlowOk,
  ChannelClose,
  ChannelCloseOk,
  ExchangeDeclare,
  ExchangeDeclareOk,
  ExchangeDelete,
  ExchangeBind,
  ExchangeUnbind,
  QueueDeclare,
  QueueDeclareOk,
  QueueBind,
  QueueDelete,
  QueueUnbind,
  QueuePurge,
  QueuePurgeOk,
  BasicQos,
  BasicQosOk,
  BasicConsumeOk,
  BasicCancelOk,
  BasicPublish,
  BasicReturn,
  BasicDeliver,
  BasicGet,
  BasicGetOk,
  BasicGetEmpty,
  BasicAck,
  BasicReject,
  BasicRecover,
  BasicRecoverOk,
  BasicNack,
  ConfirmSelect,
  ConfirmSelectOk,
  BasicConsume,
  BasicCancel,
}
use Rattle.model.specs.declared.messages.Taker.TheVariants as taker
use Rattle.model.specs.declared.notes.Cause.TheVariants.{Acked}
use Rattle.model.specs.declared.notes.Note.{Note}
use Rattle.model.specs.declared.notes.Note.TheVariants.{Published, Returned, Confirmed}
use Rattle.model.specs.declared.notes.Answer.{Answer}
use Rattle.model.specs.declared.notes.Answer.TheVariants as answer
use Rattle.model.specs.declared.notes.Way.TheVariants as way
use Rattle.model.specs.declared.events.Event.{Event}
use Rattle.model.specs.declared.events.Event.TheVariants.{Open, First, Running, Command, TooLarge, Fault, Lose, Pause, Resume, Deliver}

-- ---- refusals, in the order in which they are looked for

-- What a refused command does.
pub data Refusal : Type 0 where
  -- Nothing.
  Ignored : Refusal
  -- It closes its channel with this reply code.
  Of_channel : (code : ℕ) → Refusal
  -- It closes its connection with this reply code.
  Of_connection : (code : ℕ) → Refusal

-- The exchange called `name`, as the topology declares it, if there is one.
abbrev pub exchange_named : List Exchange → Text → Option Exchange
exchange_named xs name = find (λ (x : Exchange). bytes_eq x.name name) xs

-- Refuses a publish to an exchange that is not there, 404, or that is internal, 403.
abbrev pub refusal_at : Option Exchange → Option Refusal
refusal_at None = Some (Of_channel 404)
refusal_at (Some x) = if x.internal then Some (Of_channel 403) else None

-- Refuses a publish to the exchange of this name; the default exchange is always there.
abbrev pub refusal_to : Topology → Text → Option Refusal
refusal_to t [] = None
refusal_to t (b ∷ bs) = refusal_at (exchange_named t.exchanges (b ∷ bs))

-- The greatest 64-bit number.
abbrev pub greatest : ℕ
greatest = 18446744073709551615

-- Whether the channel has no confirm number left, as its last one is the greatest. Outside confirm mode none is needed.
abbrev pub is_spent : Option ℕ → Bool
is_spent None = false
is_spent (Some n) = n == greatest

-- Refuses a publish with 541 if no publish number or no confirm number is left for it.
abbrev pub refusal_of_count : Broker → Channel → Option Refusal
refusal_of_count b ch = if (b.published == greatest) || is_spent ch.confirm then Some (Of_connection 541) else None

-- The first refusal, or the second if there is no first.
abbrev pub or_else : Option Refusal → Option Refusal → Option Refusal
or_else None other = other
or_else (Some r) other = Some r

-- Refuses a publish: first for its immediate bit, which is not implemented, 540, then for its exchange, then for the counters.
abbrev pub refusal_of_publish : Topology → Broker → Channel → Publish → Option Refusal
refusal_of_publish t b ch p =
    if p.immediate then Some (Of_connection 540) else or_else (refusal_to t p.exchange) (refusal_of_count b ch)

-- ---- refusals of commands on queues and deliveries

-- The tag of a delivery.
abbrev pub tag_of : Outstanding → ℕ
tag_of o = o.tag

-- Refuses a queue that is not there, 404 (AMQP 0-9-1, not-found).
abbrev pub refusal_in : Topology → Text → Option Refusal
refusal_in t name = if is_some (queue_named t.queues name) then None else Some (Of_channel 404)

-- Refuses to give a message out if the channel has no delivery tag left, 541.
abbrev pub refusal_of_tags : Channel → Option Entry → Option Refusal
refusal_of_tags ch None = None
refusal_of_tags ch (Some e) = if has_tag_left ch.next_tag then None else Some (Of_connection 541)

-- Refuses a get unless its queue exists, and a delivery tag is left for the message.
abbrev pub refusal_of_get : Topology → Broker → Channel → Get → Option Refusal
refusal_of_get t b ch m = or_else (refusal_in t m.queue) (refusal_of_tags ch (first_ready (b.queue m.queue)))

-- Refuses to settle a tag that is not unacknowledged on the channel, 406 (AMQP 0-9-1, precondition-failed).
abbrev pub refusal_of_settling : Channel → ℕ → Bool → Option Refusal
refusal_of_settling ch tag multiple = if is_refused tag_of tag multiple ch.outstanding then Some (Of_channel 406) else None

-- Refuses a consume that asks for what is not implemented, 540: to be the only consumer, not to get messages of its own connection, or any argument.
abbrev pub refusal_of_asking : Consume → Option Refusal
refusal_of_asking m = if m.exclusive || m.no_local || not (bytes_eq m.arguments []) then Some (Of_connection 540) else None

-- Refuses a consumer tag that is in use on the channel, 530 (AMQP 0-9-1, basic.consume, not-allowed).
abbrev pub refusal_of_tag : Channel → Text → Option Refusal
refusal_of_tag ch tag = if is_tag_taken ch tag then Some (Of_connection 530) else None

-- Refuses a consumer with 506 if its channel has 256 already (own).
abbrev pub refusal_of_many : Channel → Option Refusal
refusal_of_many ch = if nat_le 256 (length ch.consumers) then Some (Of_connection 506) else None

-- Refuses a consumer if the channel has no consumer number left, or if the client gives no tag and the server has none left, 541.
abbrev pub refusal_of_numbers : Channel → Text → Option Refusal
refusal_of_numbers ch tag = if (ch.next_number == greatest) || has_no_tag_left ch tag then Some (Of_connection 541) else None

-- Refuses one more consumer on the channel: first for its tag, then for how many there are, then for the counters.
abbrev pub refusal_of_consumer : Channel → Consume → Option Refusal
refusal_of_consumer ch m = or_else (refusal_of_tag ch m.consumer_tag) (or_else (refusal_of_many ch) (refusal_of_numbers ch m.consumer_tag))

-- Refuses a consume: for its queue; otherwise for what it asks for; otherwise because its channel can't have this consumer.
abbrev pub refusal_of_consume : Topology → Channel → Consume → Option Refusal
refusal_of_consume t ch m = or_else (refusal_in t m.queue) (or_else (refusal_of_asking m) (refusal_of_consumer ch m))

-- Refuses a limit by the size of messages, which is not implemented, 540.
abbrev pub refusal_of_qos : Qos → Option Refusal
refusal_of_qos m = if m.prefetch_size == 0 then None else Some (Of_connection 540)

-- Refuses a recovery without requeueing, which is not implemented, 540.
abbrev pub refusal_of_recover : Bool → Option Refusal
refusal_of_recover requeue = if requeue then None else Some (Of_connection 540)

-- Refuses channel.flow with `active` not set, which is not implemented, 540.
abbrev pub refusal_of_flow : Bool → Option Refusal
refusal_of_flow active = if active then None else Some (Of_connection 540)

-- Refuses an exchange that the topology doesn't declare, 404 (AMQP 0-9-1, not-found); the default exchange is always there (own).
abbrev pub refusal_of_exchange : Topology → Text → Option Refusal
refusal_of_exchange t [] = None
refusal_of_exchange t (b ∷ bs) = if is_some (exchange_named t.exchanges (b ∷ bs)) then None else Some (Of_channel 404)

-- Refuses exchange.declare with 403, as clients declare nothing (own), unless it is passive: then it asks whether the exchange is there, by its name alone.
abbrev pub refusal_of_exchange_declare : Topology → DeclaresExchange → Option Refusal
refusal_of_exchange_declare t m = if m.passive then refusal_of_exchange t m.exchange else Some (Of_channel 403)

-- Refuses queue.declare with 403, unless it is passive: then it asks whether the queue is there.
abbrev pub refusal_of_queue_declare : Topology → DeclaresQueue → Option Refusal
refusal_of_queue_declare t m = if m.passive then refusal_in t m.queue else Some (Of_channel 403)

-- Whether the method is of the connection class.
abbrev pub is_of_connection : Method → Bool
is_of_connection m = (ids_of m).class == 10

-- Refuses a method on an open channel. One that declares, binds or deletes for a client has no access, 403 (AMQP 0-9-1, section
-- 1.1, access-refused; own). One that only a server sends, or that answers what the server never asks for, is invalid, 503
-- (command-invalid). channel.open is refused, as the channel is open, 504. Any method that is not listed is not implemented, 540.
abbrev pub refusal_of : Topology → Broker → Channel → Method → Option Refusal
refusal_of t b ch (ConfirmSelect no_wait) = None
refusal_of t b ch (BasicPublish p) = refusal_of_publish t b ch p
refusal_of t b ch (QueuePurge m) = refusal_in t m.queue
refusal_of t b ch (BasicQos m) = refusal_of_qos m
refusal_of t b ch (BasicConsume m) = refusal_of_consume t ch m
refusal_of t b ch (BasicCancel m) = None
refusal_of t b ch (BasicGet m) = refusal_of_get t b ch m
refusal_of t b ch (BasicAck m) = refusal_of_settling ch m.delivery_tag m.multiple
refusal_of t b ch (BasicReject m) = refusal_of_settling ch m.delivery_tag false
refusal_of t b ch (BasicNack m) = refusal_of_settling ch m.delivery_tag m.multiple
refusal_of t b ch (BasicRecover requeue) = refusal_of_recover requeue
refusal_of t b ch (ChannelOpen reserved) = Some (Of_connection 504)
refusal_of t b ch (ChannelFlow active) = refusal_of_flow active
refusal_of t b ch (ExchangeDeclare m) = refusal_of_exchange_declare t m
refusal_of t b ch ExchangeDelete = Some (Of_channel 403)
refusal_of t b ch ExchangeBind = Some (Of_channel 403)
refusal_of t b ch ExchangeUnbind = Some (Of_channel 403)
refusal_of t b ch (QueueDeclare m) = refusal_of_queue_declare t m
refusal_of t b ch QueueBind = Some (Of_channel 403)
refusal_of t b ch QueueDelete = Some (Of_channel 403)
refusal_of t b ch QueueUnbind = Some (Of_channel 403)
refusal_of t b ch (ChannelClose m) = None
refusal_of t b ch ChannelCloseOk = Some (Of_connection 503)
refusal_of t b ch (ChannelOpenOk reserved) = Some (Of_connection 503)
refusal_of t b ch (ChannelFlowOk active) = Some (Of_connection 503)
refusal_of t b ch ExchangeDeclareOk = Some (Of_connection 503)
refusal_of t b ch (QueueDeclareOk m) = Some (Of_connection 503)
refusal_of t b ch (QueuePurgeOk count) = Some (Of_connection 503)
refusal_of t b ch BasicQosOk = Some (Of_connection 503)
refusal_of t b ch (BasicConsumeOk tag) = Some (Of_connection 503)
refusal_of t b ch (BasicCancelOk tag) = Some (Of_connection 503)
refusal_of t b ch (BasicReturn m) = Some (Of_connection 503)
refusal_of t b ch (BasicDeliver m) = Some (Of_connection 503)
refusal_of t b ch (BasicGetOk m) = Some (Of_connection 503)
refusal_of t b ch (BasicGetEmpty reserved) = Some (Of_connection 503)
refusal_of t b ch BasicRecoverOk = Some (Of_connection 503)
refusal_of t b ch ConfirmSelectOk = Some (Of_connection 503)
refusal_of t b ch _ = Some (Of_connection 540)

-- Refuses a method on a channel: one that is not open takes channel.open alone, and refuses all else with 504.
abbrev pub refusal_on : Topology → Broker → Option Channel → Method → Option Refusal
refusal_on t b None (ChannelOpen reserved) = None
refusal_on t b None m = Some (Of_connection 504)
refusal_on t b (Some ch) m = refusal_of t b ch m

-- Refuses a method on channel 0: connection.close is taken there, and all else is invalid, 503.
abbrev pub refusal_on_zero : Method → Option Refusal
refusal_on_zero (ConnectionClose m) = None
refusal_on_zero _ = Some (Of_connection 503)

-- Refuses a method on a channel that awaits close-ok: all but channel.close and channel.close-ok is ignored.
abbrev pub refusal_while_closing : Method → Option Refusal
refusal_while_closing (ChannelClose m) = None
refusal_while_closing ChannelCloseOk = None
refusal_while_closing _ = Some Ignored

-- Whether the channel awaits close-ok, as the server closed it.
abbrev pub is_awaiting : Option Channel → Bool
is_awaiting None = false
is_awaiting (Some ch) = ch.is_closing

-- Refuses the method `m` on channel `h` of the running connection `conn`, or returns `None`.
abbrev pub refusal : Topology → Broker → Connection → ℕ → Method → Option Channel → Option Refusal
refusal t b conn h m ch =
    if is_awaiting ch then refusal_while_closing m
    else if h == 0 then refusal_on_zero m
    else if is_of_connection m then Some (Of_connection 503)
    else if nat_lt conn.channel_max h then Some (Of_connection 504)
    else refusal_on t b ch m

-- ---- changes

-- The broker with `ch` as channel `h` of connection `c`; `None` is a channel that is not open.
abbrev pub with_channel : Broker → ℕ → ℕ → Option Channel → Broker
with_channel b c h ch = record b { channel = with_pair b.channel c h ch }

-- The broker without connection `c` and its channels; entries that they held are still held.
abbrev pub without_connection : Broker → ℕ → Broker
without_connection b c = record b { connection = with_one b.connection c None; channel = with_row b.channel c (λ h. None) }

-- The broker in which every entry that a holder in `mine` held is ready again, in its place in its queue and marked as redelivered.
abbrev pub with_freed : Broker → (Holder → Bool) → Broker
with_freed b mine = record b { queue = λ q. map (freed mine) (b.queue q) }

-- The broker after it closed channel `h` of connection `c`: what the channel held is requeued, and the channel only awaits close-ok.
abbrev pub with_closing : Broker → ℕ → ℕ → Broker
with_closing b c h = with_freed (with_channel b c h (Some (record new_channel { is_closing = true }))) (by_channel c h)

-- The broker without connection `c`, its channels and their consumers; what they held is requeued.
abbrev pub with_gone : Broker → ℕ → Broker
with_gone b c = with_freed (without_connection b c) (by_connection c)

-- The broker `new` is the same as `made`.
pub record Is (made new : Broker) : Type 0 where
  pub counted : new.published ≡ made.published
  pub queues : (q : Text) → new.queue q ≡ made.queue q
  pub connections : (c : ℕ) → new.connection c ≡ made.connection c
  pub channels : (c h : ℕ) → new.channel c h ≡ made.channel c h

-- ---- sends

-- Sends `m`, without a content, to connection `c` on channel `h`.
abbrev pub reply : ℕ → ℕ → Method → Send
reply c h m = send.Command c h m None

-- Sends channel.close with this code, its text, and the ids of the method that caused it.
abbrev pub channel_close : ℕ → ℕ → ℕ → Ids → Send
channel_close c h code cause =
    reply c h (ChannelClose (record { reply_code = code; reply_text = code_text code; class_id = cause.class; method_id = cause.method }))

-- Sends connection.close with this code, its text, and the ids of the method that caused it, or 0 and 0 if none did.
abbrev pub connection_close : ℕ → ℕ → Ids → Send
connection_close c code cause =
    reply c 0 (ConnectionClose (record { reply_code = code; reply_text = code_text code; class_id = cause.class; method_id = cause.method }))

-- ---- a publish

-- The message of publish `n`. It keeps its first exchange and key when it is dead-lettered.
abbrev pub message : ℕ → Publish → Content → Message
message n p content = record {
  number = n;
  first_exchange = p.exchange;
  first_key = p.routing_key;
  exchange = p.exchange;
  key = p.routing_key;
  content = content;
  redelivered = false;
  survived = false;
}

-- Whether there is no queue: the publish is routed nowhere.
abbrev pub is_none : List Text → Bool
is_none [] = true
is_none (q ∷ qs) = false

-- The note that publish `n` is sent back, if it is (AMQP 0-9-1, basic.return).
abbrev pub returned_notes : ℕ → Bool → List Note
returned_notes n is_returned = if is_returned then Returned n ∷ [] else []

-- Sends the publish back with its content to its channel, with the code 312 no-route.
abbrev pub return_of : ℕ → ℕ → Publish → Content → Send
return_of c h p content =
    send.Command c h (BasicReturn (record { reply_code = 312; reply_text = code_text 312; exchange = p.exchange; routing_key = p.routing_key })) (Some content)

-- Sends the publish back if `is_returned` is set, and otherwise sends nothing.
abbrev pub returned_sends : ℕ → ℕ → Publish → Content → Bool → List Send
returned_sends c h p content is_returned = if is_returned then return_of c h p content ∷ [] else []

-- The answer to a publish: nack if some routed queue was full, and otherwise ack, also if it was routed nowhere.
abbrev pub answer_of : Bool → Answer
answer_of some_full = if some_full then answer.Nack else answer.Ack

-- The answer as a method, for confirm number `n` alone and not for those before it.
abbrev pub confirm_method : Answer → ℕ → Method
confirm_method answer.Ack n = BasicAck (record { delivery_tag = n; multiple = false })
confirm_method answer.Nack n = BasicNack (record { delivery_tag = n; multiple = false; requeue = false })

-- The confirm number of the next publish, one more than the last; none outside confirm mode.
abbrev pub next_of : Option ℕ → Option ℕ
next_of None = None
next_of (Some n) = Some (n + 1)

-- The note of the answer to publish `n`, in confirm mode.
abbrev pub confirm_notes : ℕ → Option ℕ → Answer → List Note
confirm_notes n None a = []
confirm_notes n (Some m) a = Confirmed n a ∷ []

-- Sends the answer with the confirm number, in confirm mode.
abbrev pub confirm_sends : ℕ → ℕ → Option ℕ → Answer → List Send
confirm_sends c h None a = []
confirm_sends c h (Some m) a = reply c h (confirm_method a m) ∷ []

-- The broker after a publish: it is counted, its message is last in each of the `targets` that was not full, and its confirm number is used.
abbrev pub after_publish : Topology → Broker → ℕ → ℕ → Channel → Publish → Content → List Text → Broker
after_publish t b c h ch p content targets = record b {
  published = b.published + 1;
  queue = λ q. b.queue q ++ comes_to t b.queue (message (b.published + 1) p content) q targets;
  channel = with_pair b.channel c h (Some (record ch { confirm = next_of ch.confirm }));
}

-- Whether one of the `targets` is too full for a message with this content.
abbrev pub is_some_full : Topology → (Text → List Entry) → Content → List Text → Bool
is_some_full t entries content targets = list_any (λ q. is_full t entries q (length content.body)) targets

-- What a publish does on the open channel `ch`: it enters each routed queue that is not full, in
-- file order, is sent back if it is mandatory and routed nowhere, and is confirmed in confirm mode.
pub record IsPublish (t : Topology) (old : Broker) (c h : ℕ) (ch : Channel) (p : Publish) (content : Content) (sends : List Send)
    (notes : List Note) (new : Broker) : Type 0 where
  pub targets : List Text
  pub routed : Picks (Routes t p.exchange p.routing_key) (queue_names t.queues) targets
  pub noted : notes ≡ Published (old.published + 1) c h p.exchange p.routing_key (next_of ch.confirm)
      ∷ entry_notes t old.queue (length content.body) (old.published + 1) way.Publish targets
      ++ returned_notes (old.published + 1) (p.mandatory && is_none targets)
      ++ confirm_notes (old.published + 1) (next_of ch.confirm) (answer_of (is_some_full t old.queue content targets))
  pub sent : sends ≡ returned_sends c h p content (p.mandatory && is_none targets)
      ++ confirm_sends c h (next_of ch.confirm) (answer_of (is_some_full t old.queue content targets))
  pub left : Is (after_publish t old c h ch p content targets) new

-- ---- the other commands

-- A step that sends `wanted_sends`, notes nothing, and leaves the broker `made`.
pub record Does (sends : List Send) (notes : List Note) (new : Broker) (wanted_sends : List Send) (made : Broker) : Type 0 where
  pub sent : sends ≡ wanted_sends
  pub noted : notes ≡ []
  pub left : Is made new

-- The last confirm number after confirm.select: 0, before the first publish, or unchanged if the channel was in confirm mode already.
abbrev pub started : Option ℕ → Option ℕ
started None = Some 0
started (Some n) = Some n

-- Answers confirm.select, unless its no-wait bit is set.
abbrev pub select_sends : ℕ → ℕ → Bool → List Send
select_sends c h no_wait = if no_wait then [] else reply c h ConfirmSelectOk ∷ []

-- The broker after a client's channel.close: what the channel held is requeued, and it is no longer open. If it awaits close-ok, nothing changes.
abbrev pub after_close : Broker → ℕ → ℕ → Channel → Broker
after_close b c h ch = if ch.is_closing then b else with_freed (with_channel b c h None) (by_channel c h)

-- ---- messages that are given out and settled

-- A step that sends `wanted_sends`, notes `wanted_notes`, and leaves the broker `made`.
pub record Makes (sends : List Send) (notes : List Note) (new : Broker) (wanted_sends : List Send) (wanted_notes : List Note) (made : Broker) : Type 0 where
  pub sent : sends ≡ wanted_sends
  pub noted : notes ≡ wanted_notes
  pub left : Is made new

-- Answers a get with the message of the entry `e`, its content, and the number of ready messages that remain (AMQP 0-9-1, basic.get-ok).
abbrev pub get_ok : ℕ → ℕ → ℕ → Entry → ℕ → Send
get_ok c h tag e remaining =
    send.Command c h
    (BasicGetOk
    (record {
      delivery_tag = tag;
      redelivered = e.message.redelivered;
      exchange = e.message.exchange;
      routing_key = e.message.key;
      message_count = written_count remaining;
    })) (Some e.message.content)

-- What a get does: it gives out the first ready message of the queue, or is answered by get-empty if there is none (AMQP 0-9-1, basic.get).
abbrev pub Gets : Broker → ℕ → ℕ → Channel → Get → Option Entry → List Send → List Note → Broker → Type 0
Gets old c h ch m None sends notes new = Makes sends notes new (reply c h (BasicGetEmpty []) ∷ []) [] old
Gets old c h ch m (Some e) sends notes new =
    Makes sends notes new
    (get_ok c h ch.next_tag e (ready_in ((after_delivery old c h ch m.no_ack m.queue taker.Get).queue m.queue)) ∷ [])
    (delivery_notes m.no_ack e.message.number m.queue)
    (after_delivery old c h ch m.no_ack m.queue taker.Get)

-- What a command that settles does on the channel `ch`: each delivery that its tag takes
-- is settled as `how` says, in the order of tags, and is no longer unacknowledged.
pub record Settles (t : Topology) (how : Settlement) (old : Broker) (c h : ℕ) (ch : Channel) (tag : ℕ) (multiple : Bool) (wanted_sends : List Send)
    (sends : List Send) (notes : List Note) (new : Broker) : Type 0 where
  pub gone : List Outstanding
  pub settled_are : settled tag_of tag multiple ch.outstanding ≡ Some gone
  pub queues : AreSettled t how c h gone old.queue notes new.queue
  pub sent : sends ≡ wanted_sends
  pub counted : new.published ≡ old.published
  pub connections : (d : ℕ) → new.connection d ≡ old.connection d
  pub channels : (d k : ℕ) → new.channel d k ≡ with_pair old.channel c h (Some (record ch { outstanding = kept tag_of tag multiple ch.outstanding })) d k

-- Answers a purge with the number of messages removed, unless its no-wait bit is set (AMQP 0-9-1, queue.purge-ok).
abbrev pub purge_sends : ℕ → ℕ → Bool → ℕ → List Send
purge_sends c h no_wait count = if no_wait then [] else reply c h (QueuePurgeOk (written_count count)) ∷ []

-- What a purge does: it removes the ready messages from its queue, notes that each left, and is answered.
abbrev pub Purges : Broker → ℕ → ℕ → Purge → List Send → List Note → Broker → Type 0
Purges old c h m sends notes new =
    Makes sends notes new (purge_sends c h m.no_wait (ready_in (old.queue m.queue))) (purge_notes m.queue (filter is_ready (old.queue m.queue)))
    (after_purge old m.queue)

-- The channel with the prefetch that a qos sets: that of all its consumers together if it is
-- global, and otherwise that of each consumer made later (RabbitMQ, "Consumer Prefetch", global).
abbrev pub limited : Channel → Qos → Channel
limited ch m = if m.global then record ch { limit = m.prefetch_count } else record ch { each_limit = m.prefetch_count }

-- Answers a declare, unless its no-wait bit is set.
abbrev pub declare_sends : ℕ → ℕ → Bool → Method → List Send
declare_sends c h no_wait answer = if no_wait then [] else reply c h answer ∷ []

-- The answer to a declare of a queue that exists: the numbers of its ready messages and of its consumers (AMQP 0-9-1, queue.declare-ok).
abbrev pub queue_declared : Text → ℕ → ℕ → Method
queue_declared queue ready consumers = QueueDeclareOk (record { queue = queue; message_count = written_count ready; consumer_count = written_count consumers })

-- What a passive declare of a queue does: it is answered, and nothing changes.
pub record Finds (old : Broker) (c h : ℕ) (m : DeclaresQueue) (sends : List Send) (notes : List Note) (new : Broker) : Type 0 where
  pub consumers : ℕ
  pub has : HasConsumers old m.queue consumers
  pub does : Does sends notes new (declare_sends c h m.no_wait (queue_declared m.queue (ready_in (old.queue m.queue)) consumers)) old

-- ---- consumers

-- Answers a consume with the tag of its consumer, unless its no-wait bit is set (AMQP 0-9-1, basic.consume-ok).
abbrev pub consume_sends : ℕ → ℕ → Bool → Text → List Send
consume_sends c h no_wait tag = if no_wait then [] else reply c h (BasicConsumeOk tag) ∷ []

-- What a consume does: it adds a consumer to its channel.
abbrev pub Consumes : Broker → ℕ → ℕ → Channel → Consume → List Send → List Note → Broker → Type 0
Consumes old c h ch m sends notes new =
    Does sends notes new (consume_sends c h m.no_wait (tag_for ch m.consumer_tag)) (with_channel old c h (Some (with_consumer ch m)))

-- Answers a cancel with the tag that it names, whether or not a consumer has it, unless its no-wait bit is set (AMQP 0-9-1, basic.cancel-ok).
abbrev pub cancel_sends : ℕ → ℕ → Bool → Text → List Send
cancel_sends c h no_wait tag = if no_wait then [] else reply c h (BasicCancelOk tag) ∷ []

-- What a cancel does: it removes the consumer with its tag from its channel, if there is one.
abbrev pub Cancels : Broker → ℕ → ℕ → Channel → Cancel → List Send → List Note → Broker → Type 0
Cancels old c h ch m sends notes new =
    Does sends notes new (cancel_sends c h m.no_wait m.consumer_tag) (with_channel old c h (Some (without_consumer ch m.consumer_tag)))

-- Sends the message of the entry `e`, with its content, to a consumer (AMQP 0-9-1, basic.deliver).
abbrev pub deliver : ℕ → ℕ → ℕ → Text → Entry → Send
deliver c h tag consumer_tag e =
    send.Command c h
    (BasicDeliver
    (record {
      consumer_tag = consumer_tag;
      delivery_tag = tag;
      redelivered = e.message.redelivered;
      exchange = e.message.exchange;
      routing_key = e.message.key;
    })) (Some e.message.content)

-- What a delivery to connection `c` does: it makes one of the deliveries that can be made.
pub record IsDelivery (old : Broker) (c : ℕ) (sends : List Send) (notes : List Note) (new : Broker) : Type 0 where
  pub made : CanDeliver old c
  pub makes : Makes sends notes new
      (deliver c made.number made.channel.next_tag made.consumer.tag made.entry ∷ [])
      (delivery_notes made.consumer.no_ack made.entry.message.number made.consumer.queue)
      (after_delivery old c made.number made.channel made.consumer.no_ack made.consumer.queue (taker.Consumer made.consumer.number))

-- The content of a publish; if it came with none, one with no properties and an empty body.
abbrev pub content_or_none : Option Content → Content
content_or_none (Some content) = content
content_or_none None = record { properties = no_properties; body = [] }

-- What a command does if it is not refused.
abbrev pub Performs : Topology → Broker → ℕ → ℕ → Channel → Method → Option Content → List Send → List Note → Broker → Type 0
Performs t old c h ch (ConfirmSelect no_wait) content sends notes new =
    Does sends notes new (select_sends c h no_wait) (with_channel old c h (Some (record ch { confirm = started ch.confirm })))
Performs t old c h ch (BasicPublish p) content sends notes new =
    IsPublish t old c h ch p (content_or_none content) sends notes new
Performs t old c h ch (ChannelOpen reserved) content sends notes new =
    Does sends notes new (reply c h (ChannelOpenOk []) ∷ []) (with_channel old c h (Some new_channel))
Performs t old c h ch (ChannelFlow active) content sends notes new =
    Does sends notes new (reply c h (ChannelFlowOk active) ∷ []) old
Performs t old c h ch (ChannelClose m) content sends notes new =
    Does sends notes new (reply c h ChannelCloseOk ∷ []) (after_close old c h ch)
Performs t old c h ch ChannelCloseOk content sends notes new =
    Does sends notes new [] (with_channel old c h None)
Performs t old c h ch (ConnectionClose m) content sends notes new =
    Does sends notes new (reply c 0 ConnectionCloseOk ∷ []) (with_gone old c)
Performs t old c h ch (ExchangeDeclare m) content sends notes new =
    Does sends notes new (declare_sends c h m.no_wait ExchangeDeclareOk) old
Performs t old c h ch (QueueDeclare m) content sends notes new =
    Finds old c h m sends notes new
Performs t old c h ch (BasicQos m) content sends notes new =
    Does sends notes new (reply c h BasicQosOk ∷ []) (with_channel old c h (Some (limited ch m)))
Performs t old c h ch (BasicConsume m) content sends notes new =
    Consumes old c h ch m sends notes new
Performs t old c h ch (BasicCancel m) content sends notes new =
    Cancels old c h ch m sends notes new
Performs t old c h ch (BasicGet m) content sends notes new =
    Gets old c h ch m (first_ready (old.queue m.queue)) sends notes new
Performs t old c h ch (BasicAck m) content sends notes new =
    Settles t (Leaves Acked) old c h ch m.delivery_tag m.multiple [] sends notes new
Performs t old c h ch (BasicReject m) content sends notes new =
    Settles t (of_rejected m.requeue) old c h ch m.delivery_tag false [] sends notes new
Performs t old c h ch (BasicNack m) content sends notes new =
    Settles t (of_rejected m.requeue) old c h ch m.delivery_tag m.multiple [] sends notes new
Performs t old c h ch (BasicRecover requeue) content sends notes new =
    Settles t Returns old c h ch 0 true (reply c h BasicRecoverOk ∷ []) sends notes new
Performs t old c h ch (QueuePurge m) content sends notes new =
    Purges old c h m sends notes new
Performs t old c h ch _ content sends notes new = ⊥

-- What a refused command does: nothing if it is ignored. Otherwise its channel or connection is
-- closed with the code of the refusal and the ids of the method, and what was held is requeued.
abbrev pub Refuses : Broker → ℕ → ℕ → Ids → Refusal → List Send → List Note → Broker → Type 0
Refuses old c h cause Ignored sends notes new = Does sends notes new [] old
Refuses old c h cause (Of_channel code) sends notes new = Does sends notes new (channel_close c h code cause ∷ []) (with_closing old c h)
Refuses old c h cause (Of_connection code) sends notes new = Does sends notes new (connection_close c code cause ∷ []) (with_gone old c)

-- The channel, or a new one if it is not open, as for channel.open and for connection.close.
abbrev pub channel_or_new : Option Channel → Channel
channel_or_new None = new_channel
channel_or_new (Some ch) = ch

-- What a command does: what it asks for if nothing refuses it, and otherwise what its refusal says.
abbrev pub Decides : Topology → Broker → ℕ → ℕ → Method → Option Content → Option Refusal → List Send → List Note → Broker → Type 0
Decides t old c h m content None sends notes new = Performs t old c h (channel_or_new (old.channel c h)) m content sends notes new
Decides t old c h m content (Some r) sends notes new = Refuses old c h (ids_of m) r sends notes new

-- What a command does on its connection; if the connection doesn't run, nothing.
abbrev pub OnConnection : Topology → Broker → ℕ → ℕ → Method → Option Content → List Send → List Note → Broker → Option Connection → Type 0
OnConnection t old c h m content sends notes new None = Does sends notes new [] old
OnConnection t old c h m content sends notes new (Some conn) = Decides t old c h m content (refusal t old conn h m (old.channel c h)) sends notes new

-- ---- a content that is too large

-- A publish with empty texts, which represents one whose content is too large.
abbrev pub empty_publish : Method
empty_publish = BasicPublish no_publish

-- Refuses a content that is too large: with 311 content-too-large on an open channel (own), and otherwise with 504.
abbrev pub refusal_of_large_on : Option Channel → Refusal
refusal_of_large_on None = Of_connection 504
refusal_of_large_on (Some ch) = Of_channel 311

-- Refuses a publish whose content is too large, on channel `h` of a running connection, in the order in which any other command is refused.
abbrev pub refusal_of_large : Connection → ℕ → Option Channel → Refusal
refusal_of_large conn h ch =
    if is_awaiting ch then Ignored
    else if h == 0 then Of_connection 503
    else if nat_lt conn.channel_max h then Of_connection 504
    else refusal_of_large_on ch

-- What a publish with too large a content does: it is refused, and the close names basic.publish. If its connection doesn't run, it does nothing.
abbrev pub OnLarge : Broker → ℕ → ℕ → List Send → List Note → Broker → Option Connection → Type 0
OnLarge old c h sends notes new None = Does sends notes new [] old
OnLarge old c h sends notes new (Some conn) = Refuses old c h (ids_of empty_publish) (refusal_of_large conn h (old.channel c h)) sends notes new

-- ---- openings, pauses

-- The channels of a connection on which 1 to `k` are open.
abbrev pub channels_up_to : ℕ → ℕ → Option Channel
channels_up_to k h = if nat_le 1 h && nat_le h k then Some new_channel else None

-- The broker with connection `c` running: `max` is its channel-max, its channels 1 to `k` are open and new, and what was held under its number is requeued.
abbrev pub opened : Broker → ℕ → ℕ → ℕ → Broker
opened b c max k =
    with_freed
    (record b {
      connection = with_one b.connection c (Some (record { channel_max = max; is_paused = false }));
      channel = with_row b.channel c (channels_up_to k);
    }) (by_connection c)

-- The connection, paused or not as `is` says; there is nothing to change without one.
abbrev pub paused : Bool → Option Connection → Option Connection
paused is None = None
paused is (Some conn) = Some (record conn { is_paused = is })

-- The broker in which connection `c` is paused (`true`) or not (`false`); unchanged if the broker has no such connection.
abbrev pub with_paused : Broker → ℕ → Bool → Broker
with_paused b c is = record b { connection = with_one b.connection c (paused is (b.connection c)) }

-- One event of the broker: from `old` it sends `sends`, notes `notes`, and leaves `new`.
abbrev pub Acts : Topology → Broker → Event → List Send → List Note → Broker → Type 0
Acts t old (Open c) sends notes new = Does sends notes new [] old
Acts t old (First c bytes) sends notes new = Does sends notes new [] old
Acts t old (Running c max k) sends notes new = Does sends notes new [] (opened old c max k)
Acts t old (Command c h m content) sends notes new = OnConnection t old c h m content sends notes new (old.connection c)
Acts t old (TooLarge c h) sends notes new = OnLarge old c h sends notes new (old.connection c)
Acts t old (Fault c code) sends notes new = Does sends notes new (connection_close c code (ids 0 0) ∷ []) (with_gone old c)
Acts t old (Lose c) sends notes new = Does sends notes new [] (with_gone old c)
Acts t old (Pause c) sends notes new = Does sends notes new [] (with_paused old c true)
Acts t old (Resume c) sends notes new = Does sends notes new [] (with_paused old c false)
Acts t old (Deliver c) sends notes new = IsDelivery old c sends notes new
