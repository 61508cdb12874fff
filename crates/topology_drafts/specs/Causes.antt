-- The conditions on a topology that can be built, and the reason that is reported otherwise. Source: RabbitMQ, "Definition
-- Export and Import"; the limits are own.
use Rattle.std.specs.Prelude.{◌≡◌, ◌≤◌, List, [], Some, None, length, All, Result, Ok, Err, MatchResult, ◌⊎◌}
use Rattle.model.specs.Words.{Text}
use Rattle.model.specs.Topology.{Topology, queue_names, exchange_names, IsIn, AreDistinct}
use Rattle.model.specs.declared.topologies.Exchange.{Exchange}
use Rattle.model.specs.declared.topologies.DeclaredQueue.{DeclaredQueue}
use Rattle.model.specs.declared.topologies.Binding.{Binding}
use Rattle.model.specs.declared.topologies.Destination.{Destination}
use Rattle.model.specs.declared.topologies.Destination.TheVariants as destination
use Rattle.topic_match.specs.Patterns.{IsPattern}
use Rattle.topology_drafts.specs.declared.bad.BadTopology.{BadTopology}
use Rattle.topology_drafts.specs.declared.bad.BadTopology.TheVariants.{Repeated, Absent, Argument, Worded, TooMany, NoExchange, Memory}

-- no two queues have the same name, and no two exchanges
pub record NamesAreDistinct (t : Topology) : Type 0 where
  pub queues : AreDistinct (queue_names t.queues)
  pub exchanges : AreDistinct (exchange_names t.exchanges)

-- `name` is one of `exchanges`, and not empty: the default exchange doesn't count
pub record IsExchange (exchanges : List Text) (name : Text) : Type 0 where
  pub some : name ≡ [] → ⊥
  pub there : IsIn name exchanges

-- the destination is one of `exchanges` or one of `queues`
abbrev pub IsDestination : List Text → List Text → Destination → Type 0
IsDestination exchanges queues (destination.Exchange name) = IsExchange exchanges name
IsDestination exchanges queues (destination.Queue name) = IsIn name queues

-- the source and the destination of the binding exist
pub record Joins (exchanges queues : List Text) (b : Binding) : Type 0 where
  pub source : IsExchange exchanges b.source
  pub end : IsDestination exchanges queues b.to

-- the source and the destination of every binding exist
abbrev pub AllJoin : Topology → Type 0
AllJoin t = All (Joins (exchange_names t.exchanges) (queue_names t.queues)) t.bindings

-- the queue has a dead-letter exchange, if it has a dead-letter key
abbrev pub KeyHasExchange : DeclaredQueue → Type 0
KeyHasExchange q = (key : Text) → q.dead_letter_key ≡ Some key → q.dead_letter_exchange ≡ None → ⊥

-- every queue with a dead-letter key has a dead-letter exchange
abbrev pub KeysHaveExchanges : Topology → Type 0
KeysHaveExchanges t = All KeyHasExchange t.queues

-- an exchange's name has from 1 to 255 bytes
pub record IsNamed (x : Exchange) : Type 0 where
  pub some : x.name ≡ [] → ⊥
  pub short : length x.name ≤ 255

-- a queue's name is a topic pattern and not empty, and its dead-letter key, if it has one, is a topic pattern
pub record IsWorded (q : DeclaredQueue) : Type 0 where
  pub some : q.name ≡ [] → ⊥
  pub name : IsPattern q.name
  pub key : (key : Text) → q.dead_letter_key ≡ Some key → IsPattern key

-- every name and key is well-formed; binding keys are topic patterns
pub record AllWorded (t : Topology) : Type 0 where
  pub exchanges : All IsNamed t.exchanges
  pub queues : All IsWorded t.queues
  pub bindings : All (λ (b : Binding). IsPattern b.key) t.bindings

-- there are at most 256 exchanges, 256 queues and 4,096 bindings
pub record IsSmall (t : Topology) : Type 0 where
  pub exchanges : length t.exchanges ≤ 256
  pub queues : length t.queues ≤ 256
  pub bindings : length t.bindings ≤ 4096

-- the alternate exchange, if there is one, is one of `exchanges`
abbrev pub AlternateIsThere : List Text → Exchange → Type 0
AlternateIsThere exchanges x = (other : Text) → x.alternate ≡ Some other → IsIn other exchanges

-- the dead-letter exchange, if there is one, is one of `exchanges` or the default one
abbrev pub DeadLettersLead : List Text → DeclaredQueue → Type 0
DeadLettersLead exchanges q = (x : Text) → q.dead_letter_exchange ≡ Some x → (x ≡ []) ⊎ IsIn x exchanges

-- every alternate exchange exists, and every dead-letter exchange exists or is the default one
pub record NamesLead (t : Topology) : Type 0 where
  pub alternates : All (AlternateIsThere (exchange_names t.exchanges)) t.exchanges
  pub dead : All (DeadLettersLead (exchange_names t.exchanges)) t.queues

-- the topology meets every condition
pub record IsBuildable (t : Topology) : Type 0 where
  pub distinct : NamesAreDistinct t
  pub join : AllJoin t
  pub keys : KeysHaveExchanges t
  pub worded : AllWorded t
  pub small : IsSmall t
  pub lead : NamesLead t

-- the topology meets all conditions that are checked before that of the refusal, but not that one; `Memory` has no condition, and is never a reason
abbrev pub IsFirstFailure : BadTopology → Topology → Type 0
IsFirstFailure Repeated t = NamesAreDistinct t → ⊥
IsFirstFailure Absent t = NamesAreDistinct t × (AllJoin t → ⊥)
IsFirstFailure Argument t = NamesAreDistinct t × AllJoin t × (KeysHaveExchanges t → ⊥)
IsFirstFailure Worded t = NamesAreDistinct t × AllJoin t × KeysHaveExchanges t × (AllWorded t → ⊥)
IsFirstFailure TooMany t = NamesAreDistinct t × AllJoin t × KeysHaveExchanges t × AllWorded t × (IsSmall t → ⊥)
IsFirstFailure NoExchange t = NamesAreDistinct t × AllJoin t × KeysHaveExchanges t × AllWorded t × IsSmall t × (NamesLead t → ⊥)
IsFirstFailure Memory t = ⊥

-- the result of a check: the topology meets every condition, or the refusal is of the first one that it doesn't meet
abbrev pub Judges : Result Unit BadTopology → Topology → Type 0
Judges result t = MatchResult result (λ u. IsBuildable t) (λ e. IsFirstFailure e t)

-- the topology is refused for the first condition that it doesn't meet; an allocation failure is reported only if it meets all
abbrev pub IsTopologyRefused : BadTopology → Topology → Type 0
IsTopologyRefused Repeated t = IsFirstFailure Repeated t
IsTopologyRefused Absent t = IsFirstFailure Absent t
IsTopologyRefused Argument t = IsFirstFailure Argument t
IsTopologyRefused Worded t = IsFirstFailure Worded t
IsTopologyRefused TooMany t = IsFirstFailure TooMany t
IsTopologyRefused NoExchange t = IsFirstFailure NoExchange t
IsTopologyRefused Memory t = IsBuildable t

-- the topology is built as it was given if it meets every condition, and refused otherwise or if an allocation fails
abbrev pub Builds : Result Topology BadTopology → Topology → Type 0
Builds (Ok t) given = (t ≡ given) × IsBuildable given
Builds (Err e) given = IsTopologyRefused e given
