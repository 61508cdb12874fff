-- Which numbers of first words of a key some tokens match (own).
use Rattle.std.specs.Prelude.{◌≡◌, ◌+◌, ◌≤◌, ◌<◌, ℕ, List, [], ◌∷◌, ◌++◌, Bool, true, false, ◌&&◌, ◌||◌, if◌then◌else◌, length, take, slice_index_or, Decides}
use Rattle.std.specs.Str.{bytes_eq}
use Rattle.model.specs.Positions.{bit_at_start}
use Rattle.model.specs.Words.{Text, Matches}
use Rattle.model.specs.declared.texts.Token.{Token}
use Rattle.model.specs.declared.texts.Token.TheVariants.{Word, One, Any}

-- `counts` says for each number from 0 to the number of `words` whether `tokens` match that many first words
pub record AreCounts (tokens : List Token) (words : List Text) (counts : List Bool) : Type 0 where
  pub size : length counts ≡ length words + 1
  pub each : (i : ℕ) → i ≤ length words → Decides (slice_index_or counts i false) (Matches tokens (take i words))

-- `counts` says for each number from 0 to `n` whether `tokens` match that many first words, and `was` says it for `n`
pub record AreCountsTo (tokens : List Token) (words : List Text) (n : ℕ) (counts : List Bool) (was : Bool) : Type 0 where
  pub size : length counts ≡ n + 1
  pub each : (i : ℕ) → i ≤ n → Decides (slice_index_or counts i false) (Matches tokens (take i words))
  pub last : Decides was (Matches tokens (take n words))

-- `CountsFollow token words before after`: `after` has the counts of some tokens followed by `token`, if `before` has those of these tokens alone
abbrev pub CountsFollow : Token → List Text → List Bool → List Bool → Type 0
CountsFollow token words before after = (tokens : List Token) → AreCounts tokens words before → AreCounts (tokens ++ token ∷ []) words after

-- `matches_empty token before`: whether tokens that end with `token` match the empty key; `before` says whether those before it do
abbrev pub matches_empty : Token → Bool → Bool
matches_empty token before = bit_at_start token before

-- `matches_after token w before_was was before_is`: whether tokens that end with `token` match words that end with `w`. Whether the tokens before `token`
-- match is `before_was` for the words before `w`, and `before_is` for all words; `was` is whether all tokens match the words before `w`
abbrev pub matches_after : Token → Text → Bool → Bool → Bool → Bool
matches_after (Word v) w before_was was before_is = before_was && bytes_eq w v
matches_after One w before_was was before_is = before_was
matches_after Any w before_was was before_is = was || before_is

-- `HasSome counts answer`: `answer` is whether `counts` has a true entry
abbrev pub HasSome : List Bool → Bool → Type 0
HasSome counts true = (i : ℕ) × (i < length counts) × (slice_index_or counts i false ≡ true)
HasSome counts false = (i : ℕ) → slice_index_or counts i false ≡ false

-- the number of true entries
abbrev pub trues : List Bool → ℕ
trues [] = 0
trues (b ∷ bs) = (if b then 1 else 0) + trues bs
