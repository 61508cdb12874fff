-- Indices that links lead to (own).
use Rattle.std.specs.Prelude.{◌≡◌, ◌<◌, ℕ, List, Bool, false, Option, Some, None, length, slice_index_or}
use Rattle.model.specs.Topology.{IsIn}
use Rattle.exchange_graph.specs.Marks.{IsSet}
use Rattle.paths.specs.declared.reach.Hop.{Hop}

-- a chain of links leads from one index to the other
pub data Chain (links : List Hop) : ℕ → ℕ → Type 0 where
  still : {a : ℕ} → Chain links a a
  along : {a b c : ℕ} (l : Hop) → IsIn l links → l.from ≡ a → l.to ≡ b → Chain links b c → Chain links a c

-- each link is between indices below `n`
abbrev pub LinksAreWithin : ℕ → List Hop → Type 0
LinksAreWithin n links = (l : Hop) → IsIn l links → (l.from < n) × (l.to < n)

-- an index that is not marked although a link leads to it from a marked one; `None` if there is none
abbrev pub IsLinkPending : List Hop → List Bool → Option ℕ → Type 0
IsLinkPending links marks None = (l : Hop) → IsIn l links → IsSet marks l.from → IsSet marks l.to
IsLinkPending links marks (Some place) = (l : Hop) × IsIn l links × (l.to ≡ place) × IsSet marks l.from × (slice_index_or marks place false ≡ false)

-- `start` is marked, and each marked index is one that a chain of links leads to from `start`
pub record MarksBegin (links : List Hop) (start : ℕ) (marks : List Bool) : Type 0 where
  pub begun : IsSet marks start
  pub sound : (i : ℕ) → IsSet marks i → Chain links start i

-- exactly the indices that chains lead to from `start` are marked
pub record AreReached (links : List Hop) (count start : ℕ) (marks : List Bool) : Type 0 where
  pub size : length marks ≡ count
  pub sound : (i : ℕ) → IsSet marks i → Chain links start i
  pub all : (i : ℕ) → Chain links start i → IsSet marks i
