-- Which exchanges and queues a route has met, by index (own).
use Rattle.std.specs.Prelude.{◌≡◌, ◌<◌, ℕ, ◌+◌, List, [], ◌∷◌, Bool, true, false, Option, Some, None, length, slice_index_or, slice_set, if◌then◌else◌, ◌⊎◌}
use Rattle.model.specs.Words.{Text}
use Rattle.model.specs.Topology.{Topology, IsIn, queue_names, exchange_names}
use Rattle.model.specs.Routing.{Edge, Leads, RoutesBy, Routes, of_key}
use Rattle.model.specs.declared.topologies.Destination.{Destination}
use Rattle.model.specs.declared.topologies.Destination.TheVariants as destination
use Rattle.exchange_graph.specs.Fans.{destination_of, AreSteps}
use Rattle.exchange_graph.specs.declared.ends.End.{End}
use Rattle.exchange_graph.specs.declared.ends.End.TheVariants.{Onward, Into}

-- mark `i` is set
abbrev pub IsSet : List Bool → ℕ → Type 0
IsSet marks i = slice_index_or marks i false ≡ true

-- the end is marked: an exchange in `seen`, a queue in `found`
abbrev pub IsMet : List Bool → List Bool → End → Type 0
IsMet seen found (Onward i) = IsSet seen i
IsMet seen found (Into i) = IsSet found i

-- `ends` are marked in addition, and nothing else changed.
pub record MarksEnds (ends : List End) (seen found seen' found' : List Bool) : Type 0 where
  pub seen_length : length seen' ≡ length seen
  pub found_length : length found' ≡ length found
  pub kept : (e : End) → IsMet seen found e → IsMet seen' found' e
  pub all : (e : End) → IsIn e ends → IsMet seen' found' e
  pub only : (e : End) → IsMet seen' found' e → IsMet seen found e ⊎ IsIn e ends

-- the indices of the marks that are set, where the first mark has the index `k`
abbrev pub set_indices : ℕ → List Bool → List ℕ
set_indices k [] = []
set_indices k (b ∷ bs) = if b then k ∷ set_indices (k + 1) bs else set_indices (k + 1) bs

-- the number of marks that are not set
abbrev pub unset : List Bool → ℕ
unset [] = 0
unset (b ∷ bs) = if b then unset bs else unset bs + 1

-- a message with `key` that is sent to exchange `start` reaches this exchange or queue
abbrev pub Arrives : Topology → Text → Text → Destination → Type 0
Arrives t start key (destination.Exchange y) = Leads t (of_key key) start y
Arrives t start key (destination.Queue q) = RoutesBy t (of_key key) start q

-- each next step of a message with `key` from the exchange `name` is marked
abbrev pub MarksAreClosed : Topology → Text → Text → List Bool → List Bool → Type 0
MarksAreClosed t key name seen found = (to : Destination) → Edge t (of_key key) name to → (e : End) × IsMet seen found e × (destination_of t e ≡ to)

-- the name of the exchange at this index
abbrev pub exchange_name : Topology → ℕ → Text
exchange_name t i = slice_index_or (exchange_names t.exchanges) i []

-- the name of the queue at this index
abbrev pub queue_name : Topology → ℕ → Text
queue_name t i = slice_index_or (queue_names t.queues) i []

-- There is a mark for each exchange and each queue of a topology.
pub record MarksHaveRoom (t : Topology) (seen found : List Bool) : Type 0 where
  pub exchanges : length seen ≡ length t.exchanges
  pub queues : length found ≡ length t.queues

-- While routing: the exchange `start` is marked, only what a message reaches is marked, and so is each next step from an exchange that is
-- done.
pub record Reaching (t : Topology) (start key : Text) (seen found done : List Bool) : Type 0 where
  pub room : MarksHaveRoom t seen found
  pub done_room : length done ≡ length t.exchanges
  pub begun : (i : ℕ) × IsSet seen i × (exchange_name t i ≡ start)
  pub sound : (e : End) → IsMet seen found e → Arrives t start key (destination_of t e)
  pub closed : (i : ℕ) → IsSet done i → MarksAreClosed t key (exchange_name t i) seen found

-- The next steps from exchange `at` are marked, and the exchange is marked as done.
pub record Expands (t : Topology) (key : Text) (at : ℕ) (seen found done seen' found' done' : List Bool) : Type 0 where
  pub ends : List End
  pub steps : AreSteps t key (exchange_name t at) ends
  pub marks : MarksEnds ends seen found seen' found'
  pub ticked : done' ≡ slice_set done at true

-- Marked in `found` are exactly the queues to which `start` routes a message with `key`.
pub record AreFound (t : Topology) (start key : Text) (found : List Bool) : Type 0 where
  pub room : length found ≡ length t.queues
  pub sound : (i : ℕ) → i < length t.queues → IsSet found i → Routes t start key (queue_name t i)
  pub all : (i : ℕ) → i < length t.queues → Routes t start key (queue_name t i) → IsSet found i

-- Marked in `seen` are exactly the exchanges to which a chain leads from `start`, itself included.
pub record AreSeen (t : Topology) (start key : Text) (seen : List Bool) : Type 0 where
  pub room : length seen ≡ length t.exchanges
  pub sound : (i : ℕ) → i < length t.exchanges → IsSet seen i → Leads t (of_key key) start (exchange_name t i)
  pub all : (i : ℕ) → i < length t.exchanges → Leads t (of_key key) start (exchange_name t i) → IsSet seen i

-- `seen` has the right marks of exchanges (`AreSeen`), and `found` those of queues (`AreFound`).
pub record AreMet (t : Topology) (start key : Text) (seen found : List Bool) : Type 0 where
  pub exchanges : AreSeen t start key seen
  pub queues : AreFound t start key found

-- The first exchange that is marked and not done; `None` if each marked one is done.
abbrev pub IsPending : List Bool → List Bool → Option ℕ → Type 0
IsPending seen done None = (i : ℕ) → IsSet seen i → IsSet done i
IsPending seen done (Some i) = (i < length seen) × IsSet seen i × (slice_index_or done i false ≡ false)
