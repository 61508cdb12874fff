-- What is decided about a command before it is performed.
use Rattle.std.specs.Prelude.{◌≡◌, ◌<◌, ◌⊎◌, Bool, true, false, length, ℕ, List, Option, Some, None, Result, Ok, Err, IsSome, if◌then◌else◌, nat_lt}
use Rattle.std.specs.Prelude.{option_map}
use Rattle.model.specs.Words.{Text}
use Rattle.model.specs.Topology.{Topology, queue_names}
use Rattle.model.specs.Broker.{Broker, Channel, Connection}
use Rattle.model.specs.Step as step
use Rattle.model.specs.Step.{Of_channel, Of_connection, refusal, refusal_of_large, refusal_of_publish, is_of_connection}
use Rattle.model.specs.declared.methods.Consume.{Consume}
use Rattle.model.specs.declared.methods.Method.{Method}
use Rattle.model.specs.declared.methods.Method.TheVariants as method
use Rattle.model.specs.declared.methods.Publish.{Publish}
use Rattle.model.specs.declared.events.Event.{Event}
use Rattle.model.specs.declared.events.Event.TheVariants as event
use Rattle.channels.specs.declared.consumers.ConsumerRefusal.{ConsumerRefusal}
use Rattle.channels.specs.declared.consumers.ConsumerRefusal.TheVariants as against
use Rattle.channels.specs.declared.consumers.ConsumeError.{ConsumeError}
use Rattle.channels.specs.declared.consumers.ConsumeError.TheVariants as failed
use Rattle.channels.specs.Open.{Open, open_in}
use Rattle.channels.specs.RunningConnections.{Running, channel_seen, limits_of}
use Rattle.depot.specs.Store.{Store}
use Rattle.exchange_graph.specs.Marks.{queue_name}
use Rattle.commands.specs.declared.refusals.Refusal.{Refusal}
use Rattle.commands.specs.declared.refusals.Refusal.TheVariants as refused
use Rattle.commands.specs.declared.refusals.Stop.{Stop}
use Rattle.commands.specs.declared.refusals.Stop.TheVariants.{Refused, Memory}

-- the refusal, as the model has it
abbrev pub refusal_seen : Refusal → step.Refusal
refusal_seen refused.Ignored = step.Ignored
refusal_seen (refused.Channel code) = Of_channel code
refusal_seen (refused.Connection code) = Of_connection code

-- the refusal, if the result is one; otherwise `None`
abbrev pub refused_by : {A : Type 0} → Result A Refusal → Option step.Refusal
refused_by (Ok x) = None
refused_by (Err r) = Some (refusal_seen r)

-- the refusal of a consume, by the reason why its channel can't have the consumer
abbrev pub refusal_by : ConsumerRefusal → Refusal
refusal_by against.InUse = refused.Connection 530
refusal_by against.TooMany = refused.Connection 506
refusal_by against.Spent = refused.Connection 541

-- the reason that stops a consume, by the reason that its consumer was not made
abbrev pub stop_of : ConsumeError → Stop
stop_of (failed.Refused r) = Refused (refusal_by r)
stop_of failed.Memory = Memory

-- if the refusal closes a channel, that channel is open
abbrev pub HasChannel : Refusal → Option Channel → Type 0
HasChannel refused.Ignored ch = Unit {0}
HasChannel (refused.Channel code) ch = IsSome ch
HasChannel (refused.Connection code) ch = Unit {0}

-- the command is ignored: its connection is not running, or its channel awaits close-ok
abbrev pub IsIgnored : Topology → Broker → ℕ → ℕ → Method → Option Connection → Type 0
IsIgnored t b c h m None = Unit {0}
IsIgnored t b c h m (Some conn) = refusal t b conn h m (b.channel c h) ≡ Some step.Ignored

-- a publish whose content is too large is ignored: its connection is not running, or its channel awaits close-ok
abbrev pub IsLargeIgnored : Broker → ℕ → ℕ → Option Connection → Type 0
IsLargeIgnored b c h None = Unit {0}
IsLargeIgnored b c h (Some conn) = refusal_of_large conn h (b.channel c h) ≡ step.Ignored

-- the refusal of a method on channel `h`, not 0, by its class and by the channel's number; `max` is the greatest number that was agreed on
abbrev pub refusal_of_number : ℕ → ℕ → Method → Option step.Refusal
refusal_of_number max h m = if is_of_connection m then Some (Of_connection 503) else if nat_lt max h then Some (Of_connection 504) else None

-- `against` is the refusal of a publish on the open channel `ch`, or `None`; of the broker's other state only the number of publishes matters
abbrev pub JudgesPublish : Store → Open → Publish → Option step.Refusal → Type 0
JudgesPublish s ch p against = (b : Broker) → b.published ≡ s.published
    → against ≡ refusal_of_publish s.topology b (open_in (queue_names s.topology.queues) ch) p

-- `r` is the refusal of a consume on channel `h` of a running connection, or `None`; the broker's other state doesn't matter
abbrev pub JudgesConsume : Topology → Running → ℕ → Consume → Option Refusal → Type 0
JudgesConsume t running h consume r = (names : List Text) (b : Broker)
    → option_map refusal_seen r ≡ refusal t b (limits_of running) h (method.BasicConsume consume) (channel_seen names running h)

-- whether an open channel performs methods of this kind; a method may still be refused for what it asks
abbrev pub is_taken : Method → Bool
is_taken (method.ChannelFlow active) = true
is_taken (method.ChannelClose m) = true
is_taken (method.ExchangeDeclare m) = true
is_taken (method.QueueDeclare m) = true
is_taken (method.QueuePurge m) = true
is_taken (method.BasicQos m) = true
is_taken (method.BasicConsume m) = true
is_taken (method.BasicCancel m) = true
is_taken (method.BasicPublish m) = true
is_taken (method.BasicGet m) = true
is_taken (method.BasicAck m) = true
is_taken (method.BasicReject m) = true
is_taken (method.BasicNack m) = true
is_taken (method.BasicRecover requeue) = true
is_taken (method.ConfirmSelect no_wait) = true
is_taken _ = false

-- whether the method opens or closes a channel, or closes the connection
abbrev pub opens_or_closes : Method → Bool
opens_or_closes (method.ChannelOpen reserved) = true
opens_or_closes (method.ChannelClose m) = true
opens_or_closes method.ChannelCloseOk = true
opens_or_closes (method.ConnectionClose m) = true
opens_or_closes _ = false

-- whether the method is a rejection that requeues
abbrev pub is_requeueing : Method → Bool
is_requeueing (method.BasicReject m) = m.requeue
is_requeueing (method.BasicNack m) = m.requeue
is_requeueing _ = false

-- the method is a rejection that requeues, and there is no refusal
abbrev pub IsRequeued : Topology → Broker → ℕ → ℕ → Method → Option Connection → Type 0
IsRequeued t b c h m None = ⊥
IsRequeued t b c h m (Some conn) = (is_requeueing m ≡ true) × (refusal t b conn h m (b.channel c h) ≡ None)

-- an event that never allocates: `Open`, `First`, a loss, a pause and its end, an ignored command, and a rejection that requeues
abbrev pub WantsNoMemory : Topology → Broker → Event → Type 0
WantsNoMemory t b (event.Open c) = Unit {0}
WantsNoMemory t b (event.First c bytes) = Unit {0}
WantsNoMemory t b (event.Running c max k) = ⊥
WantsNoMemory t b (event.Command c h m content) = IsIgnored t b c h m (b.connection c) ⊎ IsRequeued t b c h m (b.connection c)
WantsNoMemory t b (event.TooLarge c h) = IsLargeIgnored b c h (b.connection c)
WantsNoMemory t b (event.Fault c code) = ⊥
WantsNoMemory t b (event.Lose c) = Unit {0}
WantsNoMemory t b (event.Pause c) = Unit {0}
WantsNoMemory t b (event.Resume c) = Unit {0}
WantsNoMemory t b (event.Deliver c) = ⊥

-- an event that comes from a connection or from its loss; a delivery is made by the broker itself (own)
abbrev pub IsAsked : Event → Type 0
IsAsked (event.Deliver c) = ⊥
IsAsked e = Unit {0}

-- the queue with this name is at this index of the topology
pub record IsQueueIndex (t : Topology) (name : Text) (index : ℕ) : Type 0 where
  pub within : index < length t.queues
  pub named : queue_name t index ≡ name

-- A publish whose content is too large is refused as the model says; `None` if its connection is not running.
abbrev pub JudgesLarge : Broker → ℕ → ℕ → Option Refusal → Type 0
JudgesLarge b c h None = b.connection c ≡ None
JudgesLarge b c h (Some r) =
    (conn : Connection) × (b.connection c ≡ Some conn) × (refusal_seen r ≡ refusal_of_large conn h (b.channel c h)) × HasChannel r (b.channel c h)
