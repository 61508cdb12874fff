-- Which keys an `except` pattern leaves covered (own).
use Rattle.model.specs.Words.{Text, words, tokens, Matches}

-- the pattern does not match the key
abbrev pub KeepsIn : Text → Text → Type 0
KeepsIn key pattern = Matches (tokens (words pattern)) (words key) → ⊥
