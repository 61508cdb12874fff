-- The exchanges and queues of a topology as nodes: 0 is the guarantee's queue, 1 any other, 2 the default exchange, and from 3 on the
-- exchanges of the file (own).
use Rattle.std.specs.Prelude.{ℕ, ◌+◌, List, [], ◌∷◌, ◌++◌, Option, Some, None, length, if◌then◌else◌}
use Rattle.std.specs.Str.{bytes_eq}
use Rattle.model.specs.Words.{Text}
use Rattle.model.specs.Topology.{Topology}
use Rattle.model.specs.declared.topologies.Exchange.{Exchange}
use Rattle.model.specs.declared.topologies.Binding.{Binding}
use Rattle.model.specs.declared.topologies.Destination.{Destination}
use Rattle.model.specs.declared.topologies.Destination.TheVariants as destination
use Rattle.exchange_graph.specs.Fans.{exchange_index}
use Rattle.paths.specs.declared.reach.Hop.{Hop}

-- the node of the exchange of this name; for a name that no exchange has, the node after that of the last exchange
abbrev pub node : List Exchange → Text → ℕ
node exchanges [] = 2
node exchanges (b ∷ bs) = exchange_index exchanges (b ∷ bs) + 3

-- the number of nodes
abbrev pub count : Topology → ℕ
count t = length t.exchanges + 4

-- the node where a binding ends
abbrev pub end_node : List Exchange → Text → Destination → ℕ
end_node exchanges queue (destination.Exchange name) = node exchanges name
end_node exchanges queue (destination.Queue name) = if bytes_eq name queue then 0 else 1

-- the nodes that a binding connects
abbrev pub link_of : List Exchange → Text → Binding → Hop
link_of exchanges queue b = record { from = node exchanges b.source; to = end_node exchanges queue b.to }

-- the nodes that each of the bindings connects, in order
abbrev pub links_of : List Exchange → Text → List Binding → List Hop
links_of exchanges queue [] = []
links_of exchanges queue (b ∷ bs) = link_of exchanges queue b ∷ links_of exchanges queue bs

-- the nodes that an alternate exchange connects, if the exchange has one
abbrev pub alternate_link : List Exchange → Text → Option Text → List Hop
alternate_link exchanges name None = []
alternate_link exchanges name (Some other) = record { from = node exchanges name; to = node exchanges other } ∷ []

-- the nodes that the alternate exchange of each exchange connects, in order
abbrev pub alternate_links : List Exchange → List Exchange → List Hop
alternate_links exchanges [] = []
alternate_links exchanges (x ∷ xs) = alternate_link exchanges x.name x.alternate ++ alternate_links exchanges xs

-- the links of all bindings and alternate exchanges
abbrev pub any_links : Topology → Text → List Hop
any_links t queue = links_of t.exchanges queue t.bindings ++ alternate_links t.exchanges t.exchanges
