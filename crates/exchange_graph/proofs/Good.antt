-- What can be built is well formed.
use Rattle.exchange_graph.proofs.Names.{◌≡◌, ◌≤◌, [], length, sym, subst, inl, inr, arith, Contains, Text, Topology, IsIn, IsThere, IsWellFormed, exchange_names, queue_names, Exchange, DeclaredQueue, Binding, Destination, map_in, contains_in}
use Rattle.std.proofs.Common.{◌⊎◌}
use Rattle.std.proofs.lemmas.List.Elements.{All-contains}
use Rattle.model.specs.declared.topologies.Destination.TheVariants as destination
use Rattle.topology_drafts.specs.declared.bad.BadTopology.{BadTopology}
use Rattle.topology_drafts.specs.declared.bad.BadTopology.TheVariants.{Repeated, Absent, Argument, Worded, TooMany, NoExchange, Memory}
use Rattle.topology_drafts.specs.Causes.{IsBuildable, IsFirstFailure, IsTopologyRefused, IsNamed, IsWorded, IsDestination, Joins, AlternateIsThere, DeadLettersLead}

none_unnamed : (t : Topology) → IsBuildable t → IsIn [] (exchange_names t.exchanges) → ⊥
none_unnamed t b h =
    let m = map_in (λ (x : Exchange). x.name) t.exchanges [] h in
    (All-contains IsNamed t.exchanges m.0 b.worded.exchanges (contains_in t.exchanges m.0 m.1)).some m.2

-- the name of a dead-letter exchange is that of an exchange, or empty
short_lead : (t : Topology) → IsBuildable t → (exchange : Text) → (exchange ≡ []) ⊎ IsIn exchange (exchange_names t.exchanges) → length exchange ≤ 255
short_lead t b exchange (inl e) = subst (λ (name : Text). length name ≤ 255) (sym e) (omega arith)
short_lead t b exchange (inr h) =
    let m = map_in (λ (x : Exchange). x.name) t.exchanges exchange h in
    subst (λ (name : Text). length name ≤ 255) m.2 (All-contains IsNamed t.exchanges m.0 b.worded.exchanges (contains_in t.exchanges m.0 m.1)).short

place_there : (t : Topology) (to : Destination) → IsDestination (exchange_names t.exchanges) (queue_names t.queues) to → IsThere t to
place_there t (destination.Exchange name) h = h.there
place_there t (destination.Queue name) h = h

pub well_formed : (t : Topology) → IsBuildable t → IsWellFormed t
well_formed t b =
    let joined : (x : Binding) → Contains t.bindings x → Joins (exchange_names t.exchanges) (queue_names t.queues) x =
    λ x c. All-contains (Joins (exchange_names t.exchanges) (queue_names t.queues)) t.bindings x b.join c in
    let worded : (q : DeclaredQueue) → Contains t.queues q → IsWorded q = λ q c. All-contains IsWorded t.queues q b.worded.queues c in
    let leads : (q : DeclaredQueue) → Contains t.queues q → DeadLettersLead (exchange_names t.exchanges) q = λ q c. All-contains (DeadLettersLead (exchange_names t.exchanges)) t.queues q b.lead.dead c in
    record {
      queues_distinct = b.distinct.queues;
      exchanges_distinct = b.distinct.exchanges;
      none_is_default = none_unnamed t b;
      sources = λ x c. (joined x c).source.there;
      ends = λ x c. place_there t x.to (joined x c).end;
      dead_letters = λ q exchange c e. leads q c exchange e;
      alternates = λ x other c e. All-contains (AlternateIsThere (exchange_names t.exchanges)) t.exchanges x b.lead.alternates c other e;
      short_queues = λ q c. (worded q c).name.short;
      short_exchanges = λ q exchange c e. short_lead t b exchange (leads q c exchange e);
      short_keys = λ q key c e. ((worded q c).key key e).short;
    }

-- what stands against a topology is why it is refused
pub refused : (e : BadTopology) (t : Topology) → IsFirstFailure e t → IsTopologyRefused e t
refused Repeated t h = h
refused Absent t h = h
refused Argument t h = h
refused Worded t h = h
refused TooMany t h = h
refused NoExchange t h = h
refused Memory t h = absurd h
