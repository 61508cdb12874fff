-- A reload, which puts another configuration in force: its obstacles, and what it leaves (own). Start with `IsObstacle` and `with_all_survived`.
use Rattle.std.specs.Prelude.{◌≡◌, ◌<◌, ◌+◌, ℕ, map, Some, ◌⊎◌, true, Contains, slice_get}
use Rattle.model.specs.Words.{Text}
use Rattle.model.specs.Topology.{Topology, IsIn, queue_names}
use Rattle.model.specs.Routing.{Later}
use Rattle.model.specs.Guarantee.{Guarantee, Covers}
use Rattle.model.specs.Message.{Message}
use Rattle.model.specs.Broker.{Broker, Channel, Consumer}
use Rattle.model.specs.State.{Config}
use Rattle.model.specs.declared.topologies.Mode.TheVariants.{Never}
use Rattle.model.specs.declared.messages.Entry.{Entry}
use Rattle.model.specs.declared.obstacles.Obstacle.{Obstacle}
use Rattle.model.specs.declared.obstacles.Obstacle.TheVariants.{InUse, Breaks}

-- ---- queues in use that the new topology lacks

-- The queue `q` is in use: it has a message, ready or held, or a consumer takes from it.
pub data IsInUse (b : Broker) (q : Text) : Type 0 where
  by_entry : (e : Entry) → IsIn e (b.queue q) → IsInUse b q
  by_consumer : (c h : ℕ) (ch : Channel) (k : Consumer) → b.channel c h ≡ Some ch → IsIn k ch.consumers → k.queue ≡ q → IsInUse b q

-- The queue `q` of the old topology is in use, and the new topology lacks it.
pub record IsOrphaned (old new : Topology) (b : Broker) (q : Text) : Type 0 where
  pub was : IsIn q (queue_names old.queues)
  pub gone : IsIn q (queue_names new.queues) → ⊥
  pub in_use : IsInUse b q

-- The queue `q` is the first, in the order of the old file, that is in use and that the new topology lacks.
pub record IsFirstOrphaned (old new : Topology) (b : Broker) (q : Text) : Type 0 where
  pub place : ℕ
  pub named : slice_get (queue_names old.queues) place ≡ Some q
  pub orphaned : IsOrphaned old new b q
  pub none_before : (i : ℕ) (r : Text) → i < place → slice_get (queue_names old.queues) i ≡ Some r → IsOrphaned old new b r → ⊥

-- ---- messages that could reach a queue that is forbidden to them

-- Dead letters can bring the message from the queue `q` to a queue that `g` forbids for its publish. Being in that queue already is no obstacle.
pub record Endangers (t : Topology) (g : Guarantee) (q : Text) (m : Message) : Type 0 where
  pub never : g.mode ≡ Never
  pub covers : Covers g m.first_exchange m.first_key
  pub later : Later t q m.key g.queue

-- An entry, by three indices: of a guarantee, of a queue of the old topology, and of the entry in that queue.
pub record Spot : Type 0 where
  pub guarantee : ℕ
  pub queue : ℕ
  pub entry : ℕ

-- The order in which spots are looked at: by guarantee, then by queue, then by arrival.
abbrev pub IsBefore : Spot → Spot → Type 0
IsBefore r s = (r.guarantee < s.guarantee) ⊎ ((r.guarantee ≡ s.guarantee) × ((r.queue < s.queue) ⊎ ((r.queue ≡ s.queue) × (r.entry < s.entry))))

-- At the spot `s` is the entry `e` of the queue `q`, ready or held. Under the new
-- topology its message may come by deaths to a queue that the guarantee `g` forbids it.
pub record IsDanger (old : Topology) (new : Config) (b : Broker) (s : Spot) (g : Guarantee) (q : Text) (e : Entry) : Type 0 where
  pub guarantee : slice_get new.guarantees s.guarantee ≡ Some g
  pub queue : slice_get (queue_names old.queues) s.queue ≡ Some q
  pub entry : slice_get (b.queue q) s.entry ≡ Some e
  pub endangers : Endangers new.topology g q e.message

-- The first spot in danger: its message is in the queue `q` and was first sent under `key`, and `number` is that of its guarantee, counted from 1.
pub record IsFirstDanger (old : Topology) (new : Config) (b : Broker) (q key : Text) (number : ℕ) : Type 0 where
  pub spot : Spot
  pub guarantee : Guarantee
  pub entry : Entry
  pub danger : IsDanger old new b spot guarantee q entry
  pub none_before : (r : Spot) (g : Guarantee) (p : Text) (e : Entry) → IsBefore r spot → IsDanger old new b r g p e → ⊥
  pub key_is : key ≡ entry.message.first_key
  pub number_is : number ≡ spot.guarantee + 1

-- ---- obstacles to a reload

-- The new topology has each queue of the old one that is in use.
abbrev pub NoneIsOrphaned : Topology → Topology → Broker → Type 0
NoneIsOrphaned old new b = (q : Text) → IsOrphaned old new b q → ⊥

-- The first obstacle to a reload: queues are looked at before guarantees.
abbrev pub IsObstacle : Topology → Config → Broker → Obstacle → Type 0
IsObstacle old new b (InUse q) = IsFirstOrphaned old new.topology b q
IsObstacle old new b (Breaks q key number) = NoneIsOrphaned old new.topology b × IsFirstDanger old new b q key number

-- There is no obstacle to a reload.
pub record HasNoObstacle (old : Topology) (new : Config) (b : Broker) : Type 0 where
  pub none_stranded : NoneIsOrphaned old new.topology b
  pub none_endangered : (g : Guarantee) (q : Text) (e : Entry) → Contains new.guarantees g → IsIn q (queue_names old.queues) → IsIn e (b.queue q)
      → Endangers new.topology g q e.message → ⊥

-- ---- what a reload leaves

-- The entry, marked as one that was in a queue when a reload was done.
abbrev pub survived_now : Entry → Entry
survived_now e = record e { message = record e.message { survived = true } }

-- The broker after a reload: each entry is marked as one that was in a queue then, and all else is unchanged.
abbrev pub with_all_survived : Broker → Broker
with_all_survived b = record b { queue = λ q. map survived_now (b.queue q) }
