-- Dead letters as gates: for each way into a queue there is a gate with the same test, which ends where the queue's dead letters go (RabbitMQ,
-- "Dead Letter Exchanges").
use Rattle.std.specs.Prelude.{◌≡◌, ℕ, List, [], ◌∷◌, ◌++◌, Bool, false, Option, Some, None, if◌then◌else◌}
use Rattle.std.specs.Str.{bytes_eq}
use Rattle.model.specs.Words.{Text}
use Rattle.model.specs.Topology.{Topology}
use Rattle.model.specs.Tracking.{Tracked}
use Rattle.model.specs.Routing.{Comes, of_key}
use Rattle.model.specs.declared.topologies.Mode.{Mode}
use Rattle.model.specs.declared.topologies.Mode.TheVariants.{Reaches, Never}
use Rattle.model.specs.declared.topologies.Exchange.{Exchange}
use Rattle.model.specs.declared.topologies.DeclaredQueue.{DeclaredQueue}
use Rattle.model.specs.declared.topologies.Binding.{Binding}
use Rattle.model.specs.declared.topologies.Destination.{Destination}
use Rattle.model.specs.declared.topologies.Destination.TheVariants as destination
use Rattle.model.specs.declared.topologies.ExchangeKind.TheVariants.{Direct}
use Rattle.paths.specs.Leading.{AreLeading}
use Rattle.paths.specs.declared.reach.Hop.{Hop}
use Rattle.state_routes.specs.declared.gates.Gate.{Gate}
use Rattle.state_routes.specs.declared.gates.Test.TheVariants.{Pattern}
use Rattle.state_routes.specs.Nodes.{node}
use Rattle.state_routes.specs.Gates.{tracked_index, test_by, kind_at, gates_of}

-- ---- the ways into a queue

-- the destination is the queue of this name
abbrev pub is_into_queue : Destination → Text → Bool
is_into_queue (destination.Exchange x) name = false
is_into_queue (destination.Queue p) name = bytes_eq p name

-- the gate of binding `b`, except that it ends at node `to`
abbrev pub entry : List Exchange → List Tracked → ℕ → Binding → Gate
entry exchanges ps to b = record { link = record { from = node exchanges b.source; to = to }; test = test_by ps (kind_at exchanges b.source) b.key }

-- the gate from the default exchange into queue `name`, except that it ends at node `to`
abbrev pub default_entry : List Tracked → Text → ℕ → Gate
default_entry ps name to = record { link = record { from = 2; to = to }; test = Pattern (tracked_index ps Direct name) }

-- the gates of all ways into queue `name`, except that they end at node `to`
abbrev pub entries : List Exchange → List Tracked → Text → ℕ → List Binding → List Gate
entries exchanges ps name to [] = default_entry ps name to ∷ []
entries exchanges ps name to (b ∷ bs) =
    if is_into_queue b.to name then entry exchanges ps to b ∷ entries exchanges ps name to bs
    else entries exchanges ps name to bs

-- the gates of all ways into queue `name`, except that they end at the given node; none if there is no node
abbrev pub entries_through : List Exchange → List Tracked → Text → List Binding → Option ℕ → List Gate
entries_through exchanges ps name bs None = []
entries_through exchanges ps name bs (Some to) = entries exchanges ps name to bs

-- For each of the queues, the gates of all ways into it, except that they end at the node that `Ends` gives for its dead letters;
-- no gates for a queue for which it gives none.
pub data AreEntered (t : Topology) (ps : List Tracked) (Ends : DeclaredQueue → Option ℕ → Type 0) : List DeclaredQueue → List Gate → Type 0 where
  none : AreEntered t ps Ends [] []
  next : {last : DeclaredQueue} {queues : List DeclaredQueue} {gates : List Gate} (end : Option ℕ)
      → Ends last end → AreEntered t ps Ends queues gates
      → AreEntered t ps Ends (last ∷ queues) (entries_through t.exchanges ps last.name t.bindings end ++ gates)

-- the links of the gates, in order
abbrev pub links_in : List Gate → List Hop
links_in [] = []
links_in (g ∷ gs) = g.link ∷ links_in gs

-- ---- where dead letters go

-- the queues whose dead letters matter to a promise of this mode: none for a `reaches`, all for a `never`
abbrev pub dying : Mode → List DeclaredQueue → List DeclaredQueue
dying Reaches queues = []
dying Never queues = queues

-- the node of the dead-letter exchange, if there is one and the queue sets no dead-letter routing key
abbrev pub unfixed_end : List Exchange → Option Text → Option Text → Option ℕ
unfixed_end exchanges None key = None
unfixed_end exchanges (Some y) None = Some (node exchanges y)
unfixed_end exchanges (Some y) (Some key) = None

-- `end` is the node of the queue's dead-letter exchange; `None` if it has none, or if the queue sets a dead-letter routing key
abbrev pub IsUnfixedEnd : Topology → DeclaredQueue → Option ℕ → Type 0
IsUnfixedEnd t last end = end ≡ unfixed_end t.exchanges last.dead_letter_exchange last.dead_letter_key

-- `end` is the node of the dead-letter exchange, or `None` if there is none. But if the queue sets a dead-letter routing key, `end` is 0 if such
-- dead letters can ever come to queue `q`, and `None` if they can't.
abbrev pub GoOn : Topology → Text → Option Text → Option Text → Option ℕ → Type 0
GoOn t q None key end = end ≡ None
GoOn t q (Some y) None end = end ≡ Some (node t.exchanges y)
GoOn t q (Some y) (Some key) (Some n) = (n ≡ 0) × Comes t (of_key key) None y q
GoOn t q (Some y) (Some key) None = Comes t (of_key key) None y q → ⊥

-- `end` is the node to which dead letters of the queue `last` go, as far as that matters to queue `q` (`GoOn`)
abbrev pub IsEnd : Topology → Text → DeclaredQueue → Option ℕ → Type 0
IsEnd t q last end = GoOn t q last.dead_letter_exchange last.dead_letter_key end

-- `new` is `old` followed by the gates into the queue `last`, each leading on to the node where the dead letters of `last` go (by `Ends`)
abbrev pub AreMore : Topology → List Tracked → (DeclaredQueue → Option ℕ → Type 0) → DeclaredQueue → List Gate → List Gate → Type 0
AreMore t ps Ends last old new = (end : Option ℕ) × Ends last end × (new ≡ old ++ entries_through t.exchanges ps last.name t.bindings end)

-- `new` is `old` followed by the gates into the queue `last`, each leading on to the node where the dead letters of `last` go; `marks` says which dead
-- letters matter to the queue that a promise is about (`AreLeading`), whichever that queue is
abbrev pub AddsDeaths : Topology → List Bool → List Tracked → DeclaredQueue → List Gate → List Gate → Type 0
AddsDeaths t marks ps last old new = (q : Text) → AreLeading t q marks → AreMore t ps (IsEnd t q) last old new

-- The gates that matter to a promise of this mode: those of the topology, and those for dead letters.
abbrev pub AreGates : Topology → Mode → Text → List Tracked → List Gate → Type 0
AreGates t m q ps gates = (deaths : List Gate) × AreEntered t ps (IsEnd t q) (dying m t.queues) deaths × (gates ≡ gates_of t q ps ++ deaths)
