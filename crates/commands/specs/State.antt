-- The state of a core, and the model's broker that it represents.
use Rattle.std.specs.Prelude.{◌≡◌, ℕ, List, [], None, Some}
use Rattle.model.specs.Words.{Text}
use Rattle.model.specs.Topology.{Topology, queue_names}
use Rattle.model.specs.Broker.{Broker, Channel, listed}
use Rattle.model.specs.Step.{channel_or_new}
use Rattle.depot.specs.Store.{Store}
use Rattle.channels.specs.Open.{Open}
use Rattle.channels.specs.RunningConnections.{Running, connection_of, channel_of, seen_in}
use Rattle.channels.specs.Placed.{IsPlaced}

-- the queues with their messages, and the running connections by number
pub record Kept : Type 0 where
  pub store : Store
  pub connections : List (ℕ × Running)

-- the topology that the broker runs
abbrev pub topology_kept : Kept → Topology
topology_kept kept = kept.store.topology

-- the names of the topology's queues, by index
abbrev pub names_of : Kept → List Text
names_of kept = queue_names kept.store.topology.queues

-- the broker's state, as the model has it
abbrev pub broker_of : Kept → Broker
broker_of kept = record {
  published = kept.store.published;
  queue = listed (names_of kept) kept.store.queues;
  connection = connection_of kept.connections;
  channel = seen_in (names_of kept) kept.connections;
}

-- channel `h` of connection `c` as a command finds it: a new one if it is not open
abbrev pub channel_on : Kept → ℕ → ℕ → Channel
channel_on kept c h = channel_or_new ((broker_of kept).channel c h)

-- the state of a broker before the first event
abbrev pub nothing : Broker
nothing = record { published = 0; queue = λ q. []; connection = λ c. None; channel = λ c h. None }

-- each unacknowledged delivery of each channel is from a queue that exists, and each consumer takes from one
abbrev pub ArePlaced : Kept → Type 0
ArePlaced kept = (c h : ℕ) (ch : Open) → channel_of kept.connections c h ≡ Some ch → IsPlaced (topology_kept kept) ch
