-- The nodes whose beginnings match the first `n` words of a key for some `n` (own).
use Rattle.std.specs.Prelude.{◌≡◌, ◌+◌, ◌≤◌, ◌<◌, ℕ, Bool, List, [], ◌∷◌, ◌++◌, length, take}
use Rattle.model.specs.Words.{Text, Matches}
use Rattle.model.specs.Topology.{IsIn}
use Rattle.model.specs.declared.texts.Token.{Token}
use Rattle.model.specs.declared.texts.Token.TheVariants.{Word, One, Any}
use Rattle.topic_match.specs.Beginnings.{AllDistinct, Begins}
use Rattle.topic_match.specs.Counts.{AreCounts, trues}
use Rattle.topic_match.specs.Nodes.{beginning_at}
use Rattle.topic_match.specs.declared.nodes.Node.{Node}
use Rattle.topic_match.specs.declared.nodes.Met.{Met}

-- `steps` has no token twice, and has `#`, `*` and each of `words`
pub record AreSteps (steps : List Token) (words : List Text) : Type 0 where
  pub distinct : AllDistinct steps
  pub any : IsIn Any steps
  pub one : IsIn One steps
  pub each : (w : Text) → IsIn w words → IsIn (Word w) steps

-- `GoesOn b steps ts`: the tokens `ts` begin with `b`, followed by a token of `steps`
abbrev pub GoesOn : List Token → List Token → List Token → Type 0
GoesOn b steps ts = (t : Token) × (rest : List Token) × IsIn t steps × (ts ≡ b ++ t ∷ rest)

-- the nodes of the entries, in order
abbrev pub nodes_of : List Met → List ℕ
nodes_of [] = []
nodes_of (m ∷ ms) = m.node ∷ nodes_of ms

-- `met` has exactly the nodes whose beginnings have the property `Such` and match the first `n` words for some `n`, each once, with these `n`. It may also
-- have a node that has the property and matches for no `n`.
pub record AreMet (patterns : List (List Token)) (nodes : List Node) (words : List Text) (Such : List Token → Type 0) (met : List Met) : Type 0 where
  pub distinct : AllDistinct (nodes_of met)
  pub within : (m : Met) → IsIn m met → m.node < length nodes
  pub such : (m : Met) → IsIn m met → Such (beginning_at patterns nodes m.node)
  pub counts : (m : Met) → IsIn m met → AreCounts (beginning_at patterns nodes m.node) words m.counts.items
  pub all : (c i : ℕ) → c < length nodes → i ≤ length words → Matches (beginning_at patterns nodes c) (take i words)
      → Such (beginning_at patterns nodes c) → IsIn c (nodes_of met)

-- `new` is `old`, followed by the nodes whose beginnings have the property `Such` (`AreMet`)
pub record AreAdded (patterns : List (List Token)) (nodes : List Node) (words : List Text) (Such : List Token → Type 0) (old new : List Met) : Type 0 where
  pub more : List Met
  pub is_added : new ≡ old ++ more
  pub are : AreMet patterns nodes words Such more

-- `new` is `old`, followed by node `c` and those below it, as far as their beginnings match the first `n` words for some `n` (`AreMet`)
abbrev pub AreAddedFrom : List (List Token) → List Node → List Text → ℕ → List Met → List Met → Type 0
AreAddedFrom patterns nodes words c old new = AreAdded patterns nodes words (Begins (beginning_at patterns nodes c)) old new

-- `next` is a later node, whose beginning is that of `at` followed by `token`; `counts` says for each `n` whether this beginning matches the first `n`
-- words
pub record IsStep (patterns : List (List Token)) (nodes : List Node) (words : List Text) (at : ℕ) (token : Token) (next : ℕ) (counts : List Bool) : Type 0 where
  pub later : at < next
  pub within : next < length nodes
  pub begins : beginning_at patterns nodes next ≡ beginning_at patterns nodes at ++ token ∷ []
  pub are : AreCounts (beginning_at patterns nodes next) words counts

-- no beginning that continues that of node `at` by `token` matches any first words
abbrev pub IsBarren : List (List Token) → List Node → List Text → ℕ → Token → Type 0
IsBarren patterns nodes words at token = (c i : ℕ) (rest : List Token) → c < length nodes
    → beginning_at patterns nodes c ≡ beginning_at patterns nodes at ++ token ∷ rest → Matches (beginning_at patterns nodes c) (take i words)
    → i ≤ length words → ⊥

-- the number of true entries in the counts of all the nodes
abbrev pub trues_in : List Met → ℕ
trues_in [] = 0
trues_in (m ∷ ms) = trues m.counts.items + trues_in ms
