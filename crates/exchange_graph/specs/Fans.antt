-- What leads on from an exchange, by indices into the lists of the topology (own).
use Rattle.std.specs.Prelude.{◌≡◌, ◌<◌, ℕ, List, [], ◌∷◌, Option, Some, None, map, length, slice_index_or, if◌then◌else◌, option_map}
use Rattle.std.specs.List.{position_or_len}
use Rattle.std.specs.Str.{bytes_eq}
use Rattle.model.specs.Words.{Text, words, tokens}
use Rattle.model.specs.Topology.{Topology, IsIn, queue_names, exchange_names}
use Rattle.model.specs.Routing.{Passes, Edge, of_key}
use Rattle.model.specs.declared.texts.Token.{Token}
use Rattle.model.specs.declared.topologies.Exchange.{Exchange}
use Rattle.model.specs.declared.topologies.DeclaredQueue.{DeclaredQueue}
use Rattle.model.specs.declared.topologies.Binding.{Binding}
use Rattle.model.specs.declared.topologies.Destination.{Destination}
use Rattle.model.specs.declared.topologies.Destination.TheVariants as destination
use Rattle.model.specs.declared.topologies.ExchangeKind.{ExchangeKind}
use Rattle.exchange_graph.specs.declared.ends.End.{End}
use Rattle.exchange_graph.specs.declared.ends.End.TheVariants.{Onward, Into}
use Rattle.exchange_graph.specs.declared.ends.Branch.{Branch}

-- the index of the first exchange of this name, or the number of exchanges if there is none
abbrev pub exchange_index : List Exchange → Text → ℕ
exchange_index exchanges name = position_or_len (λ (x : Exchange). bytes_eq x.name name) exchanges

-- the index of the first queue of this name, or the number of queues if there is none
abbrev pub queue_index : List DeclaredQueue → Text → ℕ
queue_index queues name = position_or_len (λ (q : DeclaredQueue). bytes_eq q.name name) queues

-- the destination of a binding, by its index
abbrev pub end_of : List Exchange → List DeclaredQueue → Destination → End
end_of exchanges queues (destination.Exchange name) = Onward (exchange_index exchanges name)
end_of exchanges queues (destination.Queue name) = Into (queue_index queues name)

-- a binding without its source
abbrev pub way_of : List Exchange → List DeclaredQueue → Binding → Branch
way_of exchanges queues b = record { key = b.key; end = end_of exchanges queues b.to }

-- the bindings whose source is the exchange of this name, in order
abbrev pub ways_from : List Exchange → List DeclaredQueue → Text → List Binding → List Branch
ways_from exchanges queues name [] = []
ways_from exchanges queues name (b ∷ bs) =
    if bytes_eq b.source name then way_of exchanges queues b ∷ ways_from exchanges queues name bs else ways_from exchanges queues name bs

-- the binding keys of `ways` as topic patterns
abbrev pub patterns_of : List Branch → List (List Token)
patterns_of ways = map (λ (w : Branch). tokens (words w.key)) ways

-- what leads on from one exchange: its kind, its bindings, and the index of its alternate exchange
pub record Fan : Type 0 where
  pub kind : ExchangeKind
  pub list : List Branch
  pub alternate : Option ℕ

-- what leads on from exchange `x`
abbrev pub fan_of : Topology → Exchange → Fan
fan_of t x = record {
  kind = x.kind;
  list = ways_from t.exchanges t.queues x.name t.bindings;
  alternate = option_map (exchange_index t.exchanges) x.alternate;
}

-- the exchange or the queue at an end, by its name
abbrev pub destination_of : Topology → End → Destination
destination_of t (Onward i) = destination.Exchange (slice_index_or (exchange_names t.exchanges) i [])
destination_of t (Into i) = destination.Queue (slice_index_or (queue_names t.queues) i [])

-- the end is the index of an exchange below `exchanges`, or of a queue below `queues`
abbrev pub EndsWithin : ℕ → ℕ → End → Type 0
EndsWithin exchanges queues (Onward i) = i < exchanges
EndsWithin exchanges queues (Into i) = i < queues

-- `ends` has exactly the destinations of the bindings in `ways` whose binding key lets `key` pass at an exchange of kind `kind`.
pub record ArePassing (kind : ExchangeKind) (key : Text) (ways : List Branch) (ends : List End) : Type 0 where
  pub only : (e : End) → IsIn e ends → (w : Branch) × IsIn w ways × (w.end ≡ e) × Passes kind w.key key
  pub all : (w : Branch) → IsIn w ways → Passes kind w.key key → IsIn w.end ends

-- the destinations of the bindings `ways`
abbrev pub ends_of : List Branch → List End
ends_of ways = map (λ (w : Branch). w.end) ways

-- the destinations of the bindings with this binding key
abbrev pub ends_by_key : Text → List Branch → List End
ends_by_key key [] = []
ends_by_key key (w ∷ ws) = if bytes_eq w.key key then w.end ∷ ends_by_key key ws else ends_by_key key ws

-- the destinations of the bindings at the indices `places`
abbrev pub ends_at : List Branch → List ℕ → List End
ends_at ways places = map (λ (i : ℕ). slice_index_or (ends_of ways) i (Onward 0)) places

-- the ends, or the alternate exchange if there are none and the exchange has one
abbrev pub or_alternate : Option ℕ → List End → List End
or_alternate alternate (e ∷ es) = e ∷ es
or_alternate (Some i) [] = Onward i ∷ []
or_alternate None [] = []

-- `ends` has the destinations of the bindings that let `key` pass, or the alternate exchange if there are none.
pub record LeadOn (key : Text) (fan : Fan) (ends : List End) : Type 0 where
  pub passing : List End
  pub are : ArePassing fan.kind key fan.list passing
  pub is : ends ≡ or_alternate fan.alternate passing

-- `ends` has exactly the next steps of a message with `key` from the exchange `name`.
pub record AreSteps (t : Topology) (key name : Text) (ends : List End) : Type 0 where
  pub within : (e : End) → IsIn e ends → EndsWithin (length t.exchanges) (length t.queues) e
  pub only : (e : End) → IsIn e ends → Edge t (of_key key) name (destination_of t e)
  pub all : (to : Destination) → Edge t (of_key key) name to → (e : End) × IsIn e ends × (destination_of t e ≡ to)
