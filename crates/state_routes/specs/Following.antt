-- How marks spread from node to node (own).
use Rattle.std.specs.Prelude.{◌≡◌, ◌≤◌, ◌⊎◌, ◌+◌, ℕ, List, Bool, length}
use Rattle.model.specs.Topology.{IsIn}
use Rattle.exchange_graph.specs.Marks.{IsSet, unset}
use Rattle.paths.specs.declared.reach.Hop.{Hop}
use Rattle.paths.specs.Reach.{Chain}

-- The nodes where `links` end are marked, and the newly marked ones are appended to `rest`, the nodes still to visit.
pub record Enters (links : List Hop) (marks : List Bool) (rest : List ℕ) (marks' : List Bool) (rest' : List ℕ) : Type 0 where
  pub size : length marks' ≡ length marks
  pub kept : (i : ℕ) → IsSet marks i → IsSet marks' i
  pub all : (l : Hop) → IsIn l links → IsSet marks' l.to
  pub only : (i : ℕ) → IsSet marks' i → IsSet marks i ⊎ ((l : Hop) × IsIn l links × (l.to ≡ i) × IsIn i rest')
  pub waiting : (i : ℕ) → IsIn i rest → IsIn i rest'
  pub marked : (i : ℕ) → IsIn i rest' → IsIn i rest ⊎ IsSet marks' i
  pub fewer : unset marks' + unset marks' + length rest' ≤ unset marks + unset marks + length rest

-- `start` is marked, each marked node is one that a chain reaches from `start`, and links from a marked node that is not in `rest` lead only to marked nodes.
pub record Spreads (links : List Hop) (start : ℕ) (marks : List Bool) (rest : List ℕ) : Type 0 where
  pub begun : IsSet marks start
  pub sound : (i : ℕ) → IsSet marks i → Chain links start i
  pub waiting : (i : ℕ) → IsIn i rest → IsSet marks i
  pub closed : (l : Hop) → IsIn l links → IsSet marks l.from → IsSet marks l.to ⊎ IsIn l.from rest
