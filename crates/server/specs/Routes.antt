-- What `route` prints (own): the routed queues, a line each.
use Rattle.std.specs.Prelude.{◌≡◌, ◌++◌, ◌⊎◌, List, [], ◌∷◌, Option, Some, None}
use Rattle.model.specs.Words.{Text}
use Rattle.model.specs.Topology.{Topology, IsIn, queue_names, exchange_names}
use Rattle.model.specs.Routing.{Routes, Picks}
use Rattle.scripts.specs.Transcript.{line, name_word}

-- the exchange is the default one, or one of the topology
abbrev pub HasExchange : Topology → Text → Type 0
HasExchange t exchange = (exchange ≡ []) ⊎ IsIn exchange (exchange_names t.exchanges)

-- names as compact JSON strings, a line each
abbrev pub name_lines : List Text → Text
name_lines [] = []
name_lines (n ∷ ns) = line (name_word n ∷ []) ++ name_lines ns

-- The text lists exactly the queues to which a message published to the exchange under this key is routed, in the order of the file.
pub record ListsRoutes (t : Topology) (exchange key text : Text) : Type 0 where
  pub queues : List Text
  pub picked : Picks (Routes t exchange key) (queue_names t.queues) queues
  pub shown : text ≡ name_lines queues

-- the routed queues are listed if and only if the exchange exists
abbrev pub ListsExchange : Topology → Text → Text → Option Text → Type 0
ListsExchange t exchange key (Some text) = HasExchange t exchange × ListsRoutes t exchange key text
ListsExchange t exchange key None = HasExchange t exchange → ⊥
