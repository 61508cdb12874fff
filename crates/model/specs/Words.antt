-- Keys, their words, and the matching of topic patterns. Source: AMQP 0-9-1, section 3.1.3.3, "The Topic Exchange Type".
use Rattle.std.specs.Prelude.{ℕ, List, [], ◌∷◌, ◌==◌, if◌then◌else◌}
use Rattle.std.specs.Str.{bytes_eq}
use Rattle.model.specs.declared.texts.Token.{Token}
use Rattle.model.specs.declared.texts.Token.TheVariants.{Word, One, Any}

-- A key, a word or a name: bytes.
abbrev pub Text : Type 0
Text = List ℕ

-- The pieces with the byte `b` put before the first of them; without pieces, the one piece that is `b` alone.
abbrev pub onto_first : ℕ → List Text → List Text
onto_first b [] = (b ∷ []) ∷ []
onto_first b (w ∷ ws) = (b ∷ w) ∷ ws

-- The parts of a text between its separator bytes; empty parts are kept (own).
abbrev pub parted : ℕ → Text → List Text
parted separator [] = [] ∷ []
parted separator (b ∷ bs) = if b == separator then [] ∷ parted separator bs else onto_first b (parted separator bs)

-- The parts of a key between its dots (own).
abbrev pub pieces : Text → List Text
pieces key = parted 46 key

-- The words of a key: its parts between dots; the empty key has none (own).
abbrev pub words : Text → List Text
words [] = []
words (b ∷ bs) = pieces (b ∷ bs)

-- The token of a word of a topic pattern: `*` and `#` are wildcards.
abbrev pub token : Text → Token
token w = if bytes_eq w (42 ∷ []) then One else if bytes_eq w (35 ∷ []) then Any else Word w

-- The tokens of a topic pattern's words, in order.
abbrev pub tokens : List Text → List Token
tokens [] = []
tokens (w ∷ ws) = token w ∷ tokens ws

-- The words match the tokens: `*` takes one word, `#` any number of words, none included, and any other token its own word.
pub data Matches : List Token → List Text → Type 0 where
  none : Matches [] []
  word : {w : Text} {ts : List Token} {ws : List Text} → Matches ts ws → Matches (Word w ∷ ts) (w ∷ ws)
  one : {w : Text} {ts : List Token} {ws : List Text} → Matches ts ws → Matches (One ∷ ts) (w ∷ ws)
  any_none : {ts : List Token} {ws : List Text} → Matches ts ws → Matches (Any ∷ ts) ws
  any_more : {w : Text} {ts : List Token} {ws : List Text} → Matches (Any ∷ ts) ws → Matches (Any ∷ ts) (w ∷ ws)
