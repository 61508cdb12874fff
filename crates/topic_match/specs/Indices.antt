-- The indices in a list at which a pattern matches.
use Rattle.std.specs.Prelude.{◌<◌, ℕ, List, [], length, slice_index_or, AllPairs}
use Rattle.model.specs.Words.{Text, words, Matches}
use Rattle.model.specs.Topology.{IsIn}
use Rattle.model.specs.declared.texts.Token.{Token}

-- `MatchesAt patterns key i`: the pattern at index `i` matches `key`
abbrev pub MatchesAt : List (List Token) → Text → ℕ → Type 0
MatchesAt patterns key i = Matches (slice_index_or patterns i []) (words key)

-- `indices` has exactly the indices of the patterns that match `key`, in increasing order.
pub record AreMatches (patterns : List (List Token)) (key : Text) (indices : List ℕ) : Type 0 where
  pub rising : AllPairs (λ (i j : ℕ). i < j) indices
  pub within : (i : ℕ) → IsIn i indices → i < length patterns
  pub only : (i : ℕ) → IsIn i indices → MatchesAt patterns key i
  pub all : (i : ℕ) → i < length patterns → MatchesAt patterns key i → IsIn i indices

-- `indices` has exactly the indices below `n` of the patterns that match `words`, in increasing order.
pub record AreSome (patterns : List (List Token)) (words : List Text) (n : ℕ) (indices : List ℕ) : Type 0 where
  pub rising : AllPairs (λ (i j : ℕ). i < j) indices
  pub within : (i : ℕ) → IsIn i indices → i < n
  pub only : (i : ℕ) → IsIn i indices → Matches (slice_index_or patterns i []) words
  pub all : (i : ℕ) → i < n → Matches (slice_index_or patterns i []) words → IsIn i indices
