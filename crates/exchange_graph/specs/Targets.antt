-- The queues that a message is routed to, and the exchanges that it passes, by index in the file.
use Rattle.std.specs.Prelude.{◌<◌, ℕ, List, [], ◌∷◌, map, length, slice_index_or, All, AllPairs}
use Rattle.model.specs.Words.{Text}
use Rattle.model.specs.Topology.{Topology, exchange_names, queue_names}
use Rattle.model.specs.Routing.{Leads, Routes, Picks, of_key}

-- the names at the indices `places`
abbrev pub names_at : List Text → List ℕ → List Text
names_at names places = map (λ (i : ℕ). slice_index_or names i []) places

-- `targets` are the indices of exactly the queues that a message sent to `exchange` under `key` is routed to, each once, in the order of
-- the file.
pub record AreTargets (t : Topology) (exchange key : Text) (targets : List ℕ) : Type 0 where
  pub within : All (λ (i : ℕ). i < length t.queues) targets
  pub rising : AllPairs (λ (i j : ℕ). i < j) targets
  pub picked : Picks (Routes t exchange key) (queue_names t.queues) (names_at (queue_names t.queues) targets)

-- `visited` are exactly the exchanges to which chains lead from `exchange` under `key`, itself included, each once: the default exchange
-- first, then those of the file in its order.
abbrev pub AreVisited : Topology → Text → Text → List Text → Type 0
AreVisited t exchange key visited = Picks (Leads t (of_key key) exchange) ([] ∷ exchange_names t.exchanges) visited
