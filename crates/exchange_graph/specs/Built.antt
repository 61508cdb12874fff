-- What a topology keeps beside its lists (own).
use Rattle.std.specs.Prelude.{◌≡◌, List, map}
use Rattle.model.specs.Words.{Text}
use Rattle.model.specs.Topology.{Topology, exchange_names, queue_names}
use Rattle.model.specs.declared.topologies.Exchange.{Exchange}
use Rattle.model.specs.declared.topologies.DeclaredQueue.{DeclaredQueue}
use Rattle.model.specs.declared.topologies.Binding.{Binding}
use Rattle.topology_drafts.specs.Causes.{IsBuildable}
use Rattle.exchange_graph.specs.Fans.{Fan, fan_of}

-- the topology is valid, `fans` has for each exchange what leads on from it, and `of_exchanges` and `of_queues`
-- are the names of its exchanges and of its queues
pub record IsBuilt (t : Topology) (fans : List Fan) (of_exchanges of_queues : List Text) : Type 0 where
  pub good : IsBuildable t
  pub known : fans ≡ map (fan_of t) t.exchanges
  pub exchanges : of_exchanges ≡ exchange_names t.exchanges
  pub queues : of_queues ≡ queue_names t.queues

-- the topology that these lists declare
abbrev pub declared_by : List Exchange → List DeclaredQueue → List Binding → Topology
declared_by exchanges queues bindings = record { exchanges = exchanges; queues = queues; bindings = bindings }

-- `of_exchanges` are the names of the exchanges, and `of_queues` those of the queues
pub record AreNamed (exchanges : List Exchange) (queues : List DeclaredQueue) (of_exchanges of_queues : List Text) : Type 0 where
  pub each_exchange : of_exchanges ≡ exchange_names exchanges
  pub each_queue : of_queues ≡ queue_names queues
