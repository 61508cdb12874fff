-- The nodes of the beginnings of patterns, and how a node is found from its parent (own).
use Rattle.std.specs.Prelude.{◌≡◌, ◌+◌, ◌*◌, ◌-◌, ◌/◌, ◌%◌, ◌≤◌, ◌<◌, ℕ, List, [], ◌∷◌, ◌++◌, length, take, slice_index_or}
use Rattle.model.specs.Words.{Text}
use Rattle.model.specs.declared.texts.Token.{Token}
use Rattle.model.specs.declared.texts.Token.TheVariants.{Word, One, Any}
use Rattle.topic_match.specs.declared.nodes.Node.{Node}

-- the value read for an index that is no node's
abbrev pub no_node : Node
no_node = record { parent = 0; pattern = 0; depth = 0 }

-- node `c`
abbrev pub node_at : List Node → ℕ → Node
node_at nodes c = slice_index_or nodes c no_node

-- the tokens of a node: the first `depth` of its pattern
abbrev pub beginning : List (List Token) → Node → List Token
beginning patterns n = take n.depth (slice_index_or patterns n.pattern [])

-- the tokens of node `c`
abbrev pub beginning_at : List (List Token) → List Node → ℕ → List Token
beginning_at patterns nodes c = beginning patterns (node_at nodes c)

-- the last token of a node
abbrev pub last_token : List (List Token) → Node → Token
last_token patterns n = slice_index_or (slice_index_or patterns n.pattern []) (n.depth - 1) Any

-- ---- marks. Correctness needs only that equal tokens have equal marks

-- `number` with `bytes` mixed into it: a 32-bit hash
abbrev pub mixed : ℕ → Text → ℕ
mixed number [] = number
mixed number (b ∷ bs) = mixed ((number * 31 + b) % 4294967296) bs

-- the bytes by which a token is marked
abbrev pub spelled : Token → Text
spelled (Word w) = w
spelled One = 42 ∷ []
spelled Any = 35 ∷ []

-- the mark of a token, below 2^32
abbrev pub mark_of : Token → ℕ
mark_of token = mixed 0 (spelled token)

-- ---- slots, each with a node's index or 0: the first slots, found by a parent and a mark, and behind them two for each node

-- the number of first slots
abbrev pub heads_of : List Node → List ℕ → ℕ
heads_of nodes slots = length slots - 2 * length nodes

-- the first slot for a parent and a mark
abbrev pub first_slot : ℕ → ℕ → ℕ → ℕ
first_slot heads parent mark = ((parent % 4294967296) * 31 + mark % 4294967296) % heads

-- a parent and a mark as one number: its bits, lowest first, choose the way from slot to slot behind the first one
abbrev pub bits_of : ℕ → ℕ → ℕ
bits_of parent mark = (parent % 4294967296) * 4294967296 + mark % 4294967296

-- the slot behind `node` that the lowest bit of `bits` chooses
abbrev pub slot_behind : ℕ → ℕ → ℕ → ℕ
slot_behind heads node bits = heads + 2 * node + bits % 2

-- `Found heads slots s bits c`: from slot `s` on, `bits` lead to a slot with node `c`, or with none if `c` is 0
pub data Found (heads : ℕ) (slots : List ℕ) : ℕ → ℕ → ℕ → Type 0 where
  here : {s bits c : ℕ} → slice_index_or slots s 0 ≡ c → Found heads slots s bits c
  further : {s bits c : ℕ} → 0 < slice_index_or slots s 0
      → Found heads slots (slot_behind heads (slice_index_or slots s 0) bits) (bits / 2) c → Found heads slots s bits c

-- `IsFoundBy heads slots parent token c`: the slots lead from `parent` by `token` to node `c`
abbrev pub IsFoundBy : ℕ → List ℕ → ℕ → Token → ℕ → Type 0
IsFoundBy heads slots parent token c = Found heads slots (first_slot heads parent (mark_of token)) (bits_of parent (mark_of token)) c

-- each slot of `old` with a node keeps it in `new`
abbrev pub KeepNodes : List ℕ → List ℕ → Type 0
KeepNodes old new = (s : ℕ) → 0 < slice_index_or old s 0 → slice_index_or new s 0 ≡ slice_index_or old s 0

-- the node is a beginning of a pattern that exists, of at least one token and no more than the pattern has
pub record IsDeep (patterns : List (List Token)) (n : Node) : Type 0 where
  pub pattern : n.pattern < length patterns
  pub some : 0 < n.depth
  pub within : n.depth ≤ length (slice_index_or patterns n.pattern [])

-- the node's parent is `parent` and its last token `token`
pub record IsLast (patterns : List (List Token)) (n : Node) (parent : ℕ) (token : Token) : Type 0 where
  pub origin : n.parent ≡ parent
  pub token_is : last_token patterns n ≡ token

-- node `c`, which is not the root, has the tokens of its parent and one more, and is found from its parent
pub record IsNode (patterns : List (List Token)) (nodes : List Node) (slots : List ℕ) (c : ℕ) : Type 0 where
  pub deep : IsDeep patterns (node_at nodes c)
  pub parent : (node_at nodes c).parent < c
  pub behind : beginning_at patterns nodes c ≡ beginning_at patterns nodes (node_at nodes c).parent ++ last_token patterns (node_at nodes c) ∷ []
  pub is_found : IsFoundBy (heads_of nodes slots) slots (node_at nodes c).parent (last_token patterns (node_at nodes c)) c

-- The nodes are different beginnings of the patterns, and each but the root is found from its parent. A slot behind a node has a later node or none.
pub record AreLinked (patterns : List (List Token)) (nodes : List Node) (slots : List ℕ) : Type 0 where
  pub some : 0 < length nodes
  pub root : (node_at nodes 0).depth ≡ 0
  pub heads : 2 * length nodes < length slots
  pub within : (s : ℕ) → slice_index_or slots s 0 < length nodes
  pub later : (s : ℕ) → 0 < slice_index_or slots s 0 → s < heads_of nodes slots + 2 * slice_index_or slots s 0
  pub each : (c : ℕ) → 0 < c → c < length nodes → IsNode patterns nodes slots c
  pub distinct : (c d : ℕ) → c < length nodes → d < length nodes → beginning_at patterns nodes c ≡ beginning_at patterns nodes d → c ≡ d

-- node `c` is the child of node `at` by `token`: its parent is `at`, and its last token is `token`
pub record IsChild (patterns : List (List Token)) (nodes : List Node) (at : ℕ) (token : Token) (c : ℕ) : Type 0 where
  pub some : 0 < c
  pub within : c < length nodes
  pub last : IsLast patterns (node_at nodes c) at token

-- Slot `s` has the child of `at` by `token`; or there is no such child, and `s` is the empty slot in which it will be found.
pub record IsSlotOf (patterns : List (List Token)) (nodes : List Node) (slots : List ℕ) (at : ℕ) (token : Token) (s : ℕ) : Type 0 where
  pub within : s < length slots
  pub child : 0 < slice_index_or slots s 0 → IsChild patterns nodes at token (slice_index_or slots s 0)
  pub none : slice_index_or slots s 0 ≡ 0 → (c : ℕ) → IsChild patterns nodes at token c → ⊥
  pub put : (new : List ℕ) → KeepNodes slots new → IsFoundBy (heads_of nodes slots) new at token (slice_index_or new s 0)
