-- All queues of a topology, and the number of publishes.
use Rattle.std.specs.Prelude.{◌≡◌, ℕ, ◌≤◌, ◌<◌, List, [], length, map, Option, Some, None, slice_index_or, slice_set}
use Rattle.model.specs.Words.{Text}
use Rattle.model.specs.Topology.{Topology, queue_names, IsWellFormed}
use Rattle.model.specs.Broker.{listed}
use Rattle.model.specs.Deliveries as seen
use Rattle.model.specs.declared.messages.Entry.{Entry}
use Rattle.exchange_graph.specs.Marks.{queue_name}
use Rattle.queue.specs.Line.{Line, ready_count}

-- the topology, the entries of each of its queues in the order of the definitions, and the number of publishes
pub record Store : Type 0 where
  pub topology : Topology
  pub queues : List (List Entry)
  pub published : ℕ

-- the entries of the queue with this name
abbrev pub entries_named : Store → Text → List Entry
entries_named s q = listed (queue_names s.topology.queues) s.queues q

-- the entries of the queue at this index
abbrev pub queue_at : Store → ℕ → List Entry
queue_at s place = slice_index_or s.queues place []

-- the queue at this index has these entries, and nothing else changed
abbrev pub with_entries_at : Store → ℕ → List Entry → Store
with_entries_at s place entries = record s { queues = slice_set s.queues place entries }

-- What holds of every depot: names are distinct, and each queue of the topology has a list of entries.
pub record IsStoreWhole (s : Store) : Type 0 where
  pub formed : IsWellFormed s.topology
  pub len : length s.queues ≡ length s.topology.queues

-- the entries of each queue
abbrev pub entries_of : List Line → List (List Entry)
entries_of lines = map (λ (l : Line). l.entries) lines

-- The queue at this index is the one with its name: their entries are the same, and changing one changes the other.
pub record IsQueueNamed (s : Store) (place : ℕ) : Type 0 where
  pub entries_are : entries_named s (queue_name s.topology place) ≡ queue_at s place
  pub changed : (entries : List Entry) (q : Text)
      → entries_named (with_entries_at s place entries) q ≡ seen.with_queue (entries_named s) (queue_name s.topology place) entries q

-- the queue at index `place` has a ready message
abbrev pub HasReady : Store → ℕ → Type 0
HasReady s place = 0 < ready_count (queue_at s place)

-- `place` is the first index at or after `from` whose queue has a ready message.
pub record IsFirstReady (s : Store) (from place : ℕ) : Type 0 where
  pub behind : from ≤ place
  pub within : place < length s.topology.queues
  pub ready : HasReady s place
  pub first : (p : ℕ) → from ≤ p → p < place → HasReady s p → ⊥

-- the first index at or after `from` whose queue has a ready message; `None` if there is none
abbrev pub IsNextReady : Store → ℕ → Option ℕ → Type 0
IsNextReady s from (Some place) = IsFirstReady s from place
IsNextReady s from None = (p : ℕ) → from ≤ p → p < length s.topology.queues → HasReady s p → ⊥
