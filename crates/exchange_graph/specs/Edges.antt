-- Single steps of a route, by names.
use Rattle.std.specs.Prelude.{ℕ, Bool, false, ◌==◌}
use Rattle.model.specs.Words.{Text}
use Rattle.model.specs.Topology.{Topology}
use Rattle.model.specs.Routing.{Edge, of_key}
use Rattle.model.specs.declared.topologies.Destination.TheVariants as destination
use Rattle.exchange_graph.specs.declared.ends.End.{End}
use Rattle.exchange_graph.specs.declared.ends.End.TheVariants.{Onward, Into}

-- `LeadsOn t key exchange other`: one step leads a message with `key` from `exchange` to the exchange `other`
abbrev pub LeadsOn : Topology → Text → Text → Text → Type 0
LeadsOn t key exchange other = Edge t (of_key key) exchange (destination.Exchange other)

-- `LeadsToQueue t key exchange queue`: one step leads a message with `key` from `exchange` into `queue`
abbrev pub LeadsToQueue : Topology → Text → Text → Text → Type 0
LeadsToQueue t key exchange queue = Edge t (of_key key) exchange (destination.Queue queue)

-- the end is the exchange at this index
abbrev pub is_onward : ℕ → End → Bool
is_onward place (Onward at) = at == place
is_onward place (Into at) = false

-- the end is the queue at this index
abbrev pub is_into : ℕ → End → Bool
is_into place (Onward at) = false
is_into place (Into at) = at == place
