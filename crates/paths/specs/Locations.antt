-- Where a message is, and under which key (own).
use Rattle.std.specs.Prelude.{◌<◌, ℕ, List, [], Option, Some, None, map, length, slice_index_or}
use Rattle.model.specs.Words.{Text}
use Rattle.model.specs.Topology.{Topology}
use Rattle.model.specs.declared.topologies.DeclaredQueue.{DeclaredQueue}
use Rattle.model.specs.declared.topologies.Destination.{Destination}
use Rattle.model.specs.declared.topologies.Destination.TheVariants as destination
use Rattle.exchange_graph.specs.Marks.{exchange_name, queue_name}
use Rattle.exchange_graph.specs.declared.ends.End.{End}
use Rattle.exchange_graph.specs.declared.ends.End.TheVariants.{Onward, Into}
use Rattle.paths.specs.declared.locations.Spot.{Spot}
use Rattle.paths.specs.declared.locations.Spot.TheVariants as spot
use Rattle.paths.specs.declared.locations.Location.{Location}

-- the exchange or the queue, by its name
abbrev pub spot_place : Topology → Spot → Destination
spot_place t spot.Default = destination.Exchange []
spot_place t (spot.Exchange i) = destination.Exchange (exchange_name t i)
spot_place t (spot.Queue i) = destination.Queue (queue_name t i)

-- the dead-letter key of each queue, or `None` if it has none
abbrev pub fixed_keys : List DeclaredQueue → List (Option Text)
fixed_keys queues = map (λ (q : DeclaredQueue). q.dead_letter_key) queues

-- the dead-letter key of the queue at this index, if it has one; without an index (`None`) there is no key
abbrev pub fixed_of : Topology → Option ℕ → Option Text
fixed_of t None = None
fixed_of t (Some i) = slice_index_or (fixed_keys t.queues) i None

-- the spot is the default exchange, or an exchange or a queue of the topology
abbrev pub IsSpotThere : Topology → Spot → Type 0
IsSpotThere t spot.Default = Unit {0}
IsSpotThere t (spot.Exchange i) = i < length t.exchanges
IsSpotThere t (spot.Queue i) = i < length t.queues

-- the queue, if any, is one of the topology's
abbrev pub IsFixedThere : Topology → Option ℕ → Type 0
IsFixedThere t None = Unit {0}
IsFixedThere t (Some i) = i < length t.queues

-- both the spot and the queue that set the key are the topology's
pub record IsLocationThere (t : Topology) (s : Location) : Type 0 where
  pub spot : IsSpotThere t s.spot
  pub fixed : IsFixedThere t s.fixed

-- the exchange or the queue at which an edge ends
abbrev pub end_spot : End → Spot
end_spot (Onward i) = spot.Exchange i
end_spot (Into i) = spot.Queue i
