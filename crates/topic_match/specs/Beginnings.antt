-- The pairs of a beginning of a pattern and a number `n` for which it matches the first `n` words of a key, and their count.
use Rattle.std.specs.Prelude.{◌≡◌, ◌≤◌, ℕ, List, [], ◌∷◌, ◌++◌, length, take}
use Rattle.model.specs.Words.{Text, words, Matches}
use Rattle.model.specs.Topology.{IsIn}
use Rattle.model.specs.declared.texts.Token.{Token}

-- no element occurs twice
abbrev pub AllDistinct : {A : Type 0} → List A → Type 0
AllDistinct [] = Unit {0}
AllDistinct (x ∷ xs) = (IsIn x xs → ⊥) × AllDistinct xs

-- `Begins b ts`: the tokens `ts` begin with `b` (own)
abbrev pub Begins : List Token → List Token → Type 0
Begins b ts = (rest : List Token) × (ts ≡ b ++ rest)

-- a beginning of a pattern, and a number of words
pub record Pair : Type 0 where
  pub start : List Token
  pub taken : ℕ

-- `pair` is a beginning of one of `patterns`, and a number `n` for which it matches the first `n` words of `key` (own).
pub record IsPair (patterns : List (List Token)) (key : Text) (pair : Pair) : Type 0 where
  pub pattern : List Token
  pub is_in : IsIn pattern patterns
  pub begins : Begins pair.start pattern
  pub within : pair.taken ≤ length (words key)
  pub matches : Matches pair.start (take pair.taken (words key))

-- `count` is the number of pairs for which `IsPair` holds: a list has exactly these, each once.
pub record IsCounted (patterns : List (List Token)) (key : Text) (count : ℕ) : Type 0 where
  pub pairs : List Pair
  pub distinct : AllDistinct pairs
  pub only : (pair : Pair) → IsIn pair pairs → IsPair patterns key pair
  pub all : (pair : Pair) → IsPair patterns key pair → IsIn pair pairs
  pub size : count ≡ length pairs
