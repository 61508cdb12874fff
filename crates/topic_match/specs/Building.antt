-- How nodes are added (own).
use Rattle.std.specs.Prelude.{◌≡◌, ◌<◌, ℕ, List, [], length, take, slice_index_or}
use Rattle.model.specs.declared.texts.Token.{Token}
use Rattle.topic_match.specs.Nodes.{beginning_at}
use Rattle.topic_match.specs.declared.nodes.Node.{Node}

-- each of the `old` nodes is still there and has the same beginning
pub record AreGrown (patterns : List (List Token)) (old new : List Node) : Type 0 where
  pub kept : (c : ℕ) → c < length old → c < length new
  pub same : (c : ℕ) → c < length old → beginning_at patterns new c ≡ beginning_at patterns old c

-- node `c` is the node of the first `n` tokens of the pattern at index `pattern`
abbrev pub IsNodeOf : List (List Token) → List Node → ℕ → ℕ → ℕ → Type 0
IsNodeOf patterns nodes pattern n c = (c < length nodes) × (beginning_at patterns nodes c ≡ take n (slice_index_or patterns pattern []))

-- `ends` has an entry for each of the first `n` patterns: the node whose beginning is the whole pattern
pub record EndAt (patterns : List (List Token)) (nodes : List Node) (n : ℕ) (ends : List ℕ) : Type 0 where
  pub size : length ends ≡ n
  pub within : (p : ℕ) → p < n → slice_index_or ends p 0 < length nodes
  pub are : (p : ℕ) → p < n → beginning_at patterns nodes (slice_index_or ends p 0) ≡ slice_index_or patterns p []
