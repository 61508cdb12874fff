-- The numbers of consumers: of existing ones, and of one that is about to be made.
use Rattle.std.specs.Prelude.{◌≡◌, ◌<◌, ◌&&◌, ℕ, Bool, true, false, not, if◌then◌else◌, Option, Some, None, is_some, option_map, length}
use Rattle.model.specs.Words.{Text}
use Rattle.model.specs.Topology.{Topology}
use Rattle.model.specs.Step.{refusal}
use Rattle.model.specs.declared.methods.Method.{Method}
use Rattle.model.specs.declared.methods.Method.TheVariants.{BasicConsume}
use Rattle.model.specs.declared.events.Event.{Event}
use Rattle.model.specs.declared.events.Event.TheVariants.{Command}
use Rattle.exchange_graph.specs.Marks.{queue_name}
use Rattle.channels.specs.RunningConnections.{Running, running_in, channel_in, channel_of, channel_seen, limits_of}
use Rattle.channels.specs.Consumers.{consumer_numbered, next_number}
use Rattle.channels.specs.declared.consumers.Consumer.{Consumer}
use Rattle.commands.specs.State.{Kept, broker_of, names_of, topology_kept}
use Rattle.commands.specs.declared.picks.Pick.{Pick}

-- the consumer with the connection, channel and number of `p`, if it exists
abbrev pub consumer_kept : Kept → Pick → Option Consumer
consumer_kept kept p = consumer_numbered (channel_of kept.connections p.connection p.channel) p.number

-- the consumer exists
abbrev pub has_consumer : Kept → Pick → Bool
has_consumer kept p = is_some (consumer_kept kept p)

-- each consumer on the same channel has a smaller number
abbrev pub IsNewest : Kept → Pick → Type 0
IsNewest kept p = (q : Pick) → q.connection ≡ p.connection → q.channel ≡ p.channel → has_consumer kept q ≡ true → q.number < p.number

-- ---- the consumer that is about to be made

-- whether the method is a consume
abbrev pub is_consume : Method → Bool
is_consume (BasicConsume m) = true
is_consume _ = false

-- the numbers of the next consumer of this channel, if the connection is running
abbrev pub next_consumer : ℕ → ℕ → Option Running → Option Pick
next_consumer c h None = None
next_consumer c h (Some l) = option_map (λ (n : ℕ). record { connection = c; channel = h; number = n }) (next_number (channel_in l h))

-- whether a method on channel `h` of this connection makes a consumer: it is a consume that is not refused
abbrev pub makes_consumer : Kept → ℕ → Method → Option Running → Bool
makes_consumer kept h m None = false
makes_consumer kept h m (Some l) =
    is_consume m && not (is_some (refusal (topology_kept kept) (broker_of kept) (limits_of l) h m (channel_seen (names_of kept) l h)))

-- the numbers of the consumer that a method on channel `h` of connection `c` makes, if any
abbrev pub consumer_made_on : Kept → ℕ → ℕ → Method → Option Running → Option Pick
consumer_made_on kept c h m l = if makes_consumer kept h m l then next_consumer c h l else None

-- the numbers of the consumer that this event is going to make, if any; an event that is refused makes none
abbrev pub consumer_to_make : Kept → Event → Option Pick
consumer_to_make kept (Command c h m content) = consumer_made_on kept c h m (running_in kept.connections c)
consumer_to_make kept e = None

-- the name of the queue from which a method consumes, if it is a consume
abbrev pub consumed_by : Method → Option Text
consumed_by (BasicConsume m) = Some m.queue
consumed_by _ = None

-- the name of the queue from which an event consumes, if it is a consume
abbrev pub consumed : Event → Option Text
consumed (Command c h m content) = consumed_by m
consumed e = None

-- The event is a consume from the queue at this index.
pub record IsConsumed (t : Topology) (e : Event) (place : ℕ) : Type 0 where
  pub within : place < length t.queues
  pub named : consumed e ≡ Some (queue_name t place)
