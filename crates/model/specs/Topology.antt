-- What a definitions file sets up. Source: RabbitMQ, "Definition Export and Import".
use Rattle.std.specs.Prelude.{◌≡◌, ◌≤◌, length, List, [], ◌∷◌, Some, map, Contains, ◌⊎◌}
use Rattle.model.specs.Words.{Text}
use Rattle.model.specs.declared.topologies.Exchange.{Exchange}
use Rattle.model.specs.declared.topologies.DeclaredQueue.{DeclaredQueue}
use Rattle.model.specs.declared.topologies.Binding.{Binding}
use Rattle.model.specs.declared.topologies.Destination.{Destination}
use Rattle.model.specs.declared.topologies.Destination.TheVariants as destination

-- Exchanges, queues and bindings, each in the order of the file.
pub record Topology : Type 0 where
  pub exchanges : List Exchange
  pub queues : List DeclaredQueue
  pub bindings : List Binding

-- The names of the queues, in order.
abbrev pub queue_names : List DeclaredQueue → List Text
queue_names queues = map (λ (q : DeclaredQueue). q.name) queues

-- The names of the exchanges, in order.
abbrev pub exchange_names : List Exchange → List Text
exchange_names exchanges = map (λ (x : Exchange). x.name) exchanges

-- ---- what is true of a topology

-- `x` is one of the list.
abbrev pub IsIn : {A : Type 0} → A → List A → Type 0
IsIn x [] = ⊥
IsIn x (y ∷ ys) = (x ≡ y) ⊎ IsIn x ys

-- No two of the names are the same.
abbrev pub AreDistinct : List Text → Type 0
AreDistinct [] = Unit {0}
AreDistinct (x ∷ xs) = (IsIn x xs → ⊥) × AreDistinct xs

-- The exchange or queue is one of the topology.
abbrev pub IsThere : Topology → Destination → Type 0
IsThere t (destination.Exchange name) = IsIn name (exchange_names t.exchanges)
IsThere t (destination.Queue name) = IsIn name (queue_names t.queues)

-- The topology is well-formed: the names of its queues are distinct; those of its exchanges are, too, and none is `""`, the default exchange's;
-- each exchange and queue that it refers to exists; and queue names, dead-letter exchanges and dead-letter keys have at most 255 bytes.
pub record IsWellFormed (t : Topology) : Type 0 where
  pub queues_distinct : AreDistinct (queue_names t.queues)
  pub exchanges_distinct : AreDistinct (exchange_names t.exchanges)
  pub none_is_default : IsIn [] (exchange_names t.exchanges) → ⊥
  pub sources : (b : Binding) → Contains t.bindings b → IsIn b.source (exchange_names t.exchanges)
  pub ends : (b : Binding) → Contains t.bindings b → IsThere t b.to
  pub alternates : (x : Exchange) (other : Text) → Contains t.exchanges x → x.alternate ≡ Some other → IsIn other (exchange_names t.exchanges)
  -- A queue may also dead-letter to the default exchange.
  pub dead_letters : (q : DeclaredQueue) (exchange : Text) → Contains t.queues q → q.dead_letter_exchange ≡ Some exchange
      → (exchange ≡ []) ⊎ IsIn exchange (exchange_names t.exchanges)
  -- Bounds of 255 bytes, so that the names that a dead letter is sent with, and those in its headers, fit short strings.
  pub short_queues : (q : DeclaredQueue) → Contains t.queues q → length q.name ≤ 255
  pub short_exchanges : (q : DeclaredQueue) (exchange : Text) → Contains t.queues q → q.dead_letter_exchange ≡ Some exchange → length exchange ≤ 255
  pub short_keys : (q : DeclaredQueue) (key : Text) → Contains t.queues q → q.dead_letter_key ≡ Some key → length key ≤ 255
