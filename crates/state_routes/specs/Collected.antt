-- The patterns that a certificate tracks, in order (own).
use Rattle.std.specs.Prelude.{List, [], ◌∷◌, ◌++◌, Bool, false, slice_index_or, if◌then◌else◌}
use Rattle.std.specs.Str.{bytes_eq}
use Rattle.model.specs.Words.{Text}
use Rattle.model.specs.Topology.{Topology}
use Rattle.state_routes.specs.declared.gates.Gate.{Gate}
use Rattle.state_routes.specs.Nodes.{node, count, any_links}
use Rattle.paths.specs.Reach.{AreReached}
use Rattle.state_routes.specs.Deaths.{AreEntered, IsUnfixedEnd, dying, links_in}
use Rattle.model.specs.Tracking.{Tracked, appended_if_new, same_tracked}
use Rattle.model.specs.declared.topologies.Mode.{Mode}
use Rattle.model.specs.declared.topologies.Exchange.{Exchange}
use Rattle.model.specs.declared.topologies.DeclaredQueue.{DeclaredQueue}
use Rattle.model.specs.declared.topologies.Binding.{Binding}
use Rattle.model.specs.declared.topologies.ExchangeKind.{ExchangeKind}
use Rattle.model.specs.declared.topologies.ExchangeKind.TheVariants.{Direct, Fanout, Topic}

-- `ps`, with the pattern of this kind and text appended unless `ps` has it
abbrev pub onto_tracked : List Tracked → ExchangeKind → Text → List Tracked
onto_tracked ps kind text = appended_if_new same_tracked ps (record { kind = kind; text = text })

-- `ps`, with the binding key of each binding from the exchange `name` appended unless it is there
abbrev pub keys_onto : List Tracked → ExchangeKind → Text → List Binding → List Tracked
keys_onto ps kind name [] = ps
keys_onto ps kind name (b ∷ bs) = keys_onto (if bytes_eq b.source name then onto_tracked ps kind b.key else ps) kind name bs

-- `ps`, with the binding keys of the exchange `name` appended (`keys_onto`); none for a fanout exchange, which compares no key
abbrev pub keys_by_onto : List Tracked → ExchangeKind → Text → List Binding → List Tracked
keys_by_onto ps Direct name bs = keys_onto ps Direct name bs
keys_by_onto ps Topic name bs = keys_onto ps Topic name bs
keys_by_onto ps Fanout name bs = ps

-- `ps` with the names of the queues added, as keys of a direct exchange: that is how the default exchange compares keys
abbrev pub names_onto : List Tracked → List DeclaredQueue → List Tracked
names_onto ps [] = ps
names_onto ps (q ∷ qs) = names_onto (onto_tracked ps Direct q.name) qs

-- `ps` with the texts added as topic patterns
abbrev pub topics_onto : List Tracked → List Text → List Tracked
topics_onto ps [] = ps
topics_onto ps (e ∷ es) = topics_onto (onto_tracked ps Topic e) es

-- `ps` with the names of `queues` added if `met`, which says that the default exchange is marked
abbrev pub names_if : Bool → List Tracked → List DeclaredQueue → List Tracked
names_if met ps queues = if met then names_onto ps queues else ps

-- `ps`, with the binding keys of each exchange whose node is marked appended
abbrev pub met_onto : Topology → List Bool → List Tracked → List Exchange → List Tracked
met_onto t marks ps [] = ps
met_onto t marks ps (x ∷ xs) = met_onto t marks
    (if slice_index_or marks (node t.exchanges x.name) false then keys_by_onto ps x.kind x.name t.bindings else ps) xs

-- the pattern, the patterns of `excepts`, the queue names if the default exchange (node 2) is marked, and the binding keys of each marked
-- exchange
abbrev pub collected : Topology → Text → List Text → List Bool → List Tracked
collected t pattern excepts marks = met_onto t marks (names_if (slice_index_or marks 2 false)
    (topics_onto (onto_tracked [] Topic pattern) excepts) t.queues) t.exchanges

-- `marks` are the nodes that a message may reach from exchange `x` with its own key; for a `never` also as a dead letter that keeps its key
abbrev pub AreInReach : Topology → Mode → Text → Text → List Bool → Type 0
AreInReach t m x q marks = (deaths : List Gate) × AreEntered t [] (IsUnfixedEnd t) (dying m t.queues) deaths
    × AreReached (any_links t q ++ links_in deaths) (count t) (node t.exchanges x) marks
