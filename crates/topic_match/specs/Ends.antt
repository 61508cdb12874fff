-- Which patterns end at a node, and which of them a walk has found (own).
use Rattle.std.specs.Prelude.{◌≡◌, ◌<◌, ℕ, List, [], true, false, if◌then◌else◌, length, slice_index_or, AllPairs}
use Rattle.model.specs.Topology.{IsIn}
use Rattle.topic_match.specs.Beginnings.{AllDistinct}
use Rattle.topic_match.specs.Walks.{nodes_of}
use Rattle.topic_match.specs.declared.nodes.Met.{Met}

-- `lists` has `count` entries: for each node the indices below `n` of the patterns that end at it, each once
pub record AreEnding (ends : List ℕ) (count n : ℕ) (lists : List (List ℕ)) : Type 0 where
  pub size : length lists ≡ count
  pub distinct : (c : ℕ) → AllDistinct (slice_index_or lists c [])
  pub only : (c p : ℕ) → IsIn p (slice_index_or lists c []) → (p < n) × (slice_index_or ends p 0 ≡ c)
  pub all : (p : ℕ) → p < n → IsIn p (slice_index_or lists (slice_index_or ends p 0) [])

-- the indices of the patterns that end at the node of `m` if its beginning matches `n` words, and none if it doesn't
abbrev pub indices_at : List (List ℕ) → Met → ℕ → List ℕ
indices_at lists m n = if slice_index_or m.counts.items n false then slice_index_or lists m.node [] else []

-- `met` names no node twice, each of its nodes has a list in `lists` and counts for `n` words, and no index is in two lists or twice in one
pub record AreSound (lists : List (List ℕ)) (met : List Met) (n : ℕ) : Type 0 where
  pub distinct : AllDistinct (nodes_of met)
  pub each : (c : ℕ) → AllDistinct (slice_index_or lists c [])
  pub own : (c d p : ℕ) → IsIn p (slice_index_or lists c []) → IsIn p (slice_index_or lists d []) → c ≡ d
  pub within : (m : Met) → IsIn m met → m.node < length lists
  pub told : (m : Met) → IsIn m met → n < length m.counts.items

-- the pattern at index `p` ends at a node of `met` that matches `n` words
pub record IsFound (lists : List (List ℕ)) (met : List Met) (n p : ℕ) : Type 0 where
  pub at : Met
  pub is_met : IsIn at met
  pub matches : slice_index_or at.counts.items n false ≡ true
  pub ends : IsIn p (slice_index_or lists at.node [])

-- `found` has exactly the indices of the patterns that end at a node of `met` that matches `n` words (`IsFound`), each once
pub record AreFound (lists : List (List ℕ)) (met : List Met) (n : ℕ) (found : List ℕ) : Type 0 where
  pub distinct : AllDistinct found
  pub only : (p : ℕ) → IsIn p found → IsFound lists met n p
  pub all : (p : ℕ) → IsFound lists met n p → IsIn p found

-- `found` has exactly the indices of the patterns that end at a node of `met` that matches `n` words (`IsFound`), in increasing order
pub record AreRising (lists : List (List ℕ)) (met : List Met) (n : ℕ) (found : List ℕ) : Type 0 where
  pub rising : AllPairs (λ (i j : ℕ). i < j) found
  pub only : (p : ℕ) → IsIn p found → IsFound lists met n p
  pub all : (p : ℕ) → IsFound lists met n p → IsIn p found
