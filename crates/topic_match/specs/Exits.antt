-- The kinds of tokens by which beginnings of patterns continue (own).
use Rattle.std.specs.Prelude.{◌≡◌, ◌<◌, ℕ, List, Bool, true, false, length, slice_index_or, slice_set}
use Rattle.model.specs.declared.texts.Token.{Token}
use Rattle.model.specs.declared.texts.Token.TheVariants.{Word, One, Any}
use Rattle.topic_match.specs.Nodes.{node_at, last_token, IsDeep}
use Rattle.topic_match.specs.declared.nodes.Node.{Node}
use Rattle.topic_match.specs.declared.nodes.Exits.{Exits}

-- the value read for an index that is no node's
abbrev pub no_exit : Exits
no_exit = record { word = false; one = false; any = false }

-- the exits have the kind of the token: a word, `*` or `#`
abbrev pub has_exit : Exits → Token → Bool
has_exit exits (Word w) = exits.word
has_exit exits One = exits.one
has_exit exits Any = exits.any

-- the exits with the kind of the token added
abbrev pub with_exit : Exits → Token → Exits
with_exit exits (Word w) = record exits { word = true }
with_exit exits One = record exits { one = true }
with_exit exits Any = record exits { any = true }

-- the exits of all nodes, with the kind of the last token of node `n` added to those of its parent
abbrev pub with_exit_to : List (List Token) → Node → List Exits → List Exits
with_exit_to patterns n exits = slice_set exits n.parent (with_exit (slice_index_or exits n.parent no_exit) (last_token patterns n))

-- each node but the root has a last token, and its parent has a smaller index
pub record AreDeep (patterns : List (List Token)) (nodes : List Node) : Type 0 where
  pub deep : (c : ℕ) → 0 < c → c < length nodes → IsDeep patterns (node_at nodes c)
  pub parent : (c : ℕ) → 0 < c → c < length nodes → (node_at nodes c).parent < c

-- `exits` has an entry for each node; for each of the first `n` nodes except the root, the parent's entry has the kind of the node's last token
pub record AreExits (patterns : List (List Token)) (nodes : List Node) (n : ℕ) (exits : List Exits) : Type 0 where
  pub size : length exits ≡ length nodes
  pub each : (c : ℕ) → 0 < c → c < n → has_exit (slice_index_or exits (node_at nodes c).parent no_exit) (last_token patterns (node_at nodes c)) ≡ true
