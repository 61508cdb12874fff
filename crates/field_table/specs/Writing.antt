-- What can be encoded, part by part. Source: AMQP 0-9-1, section 4.2.5.5, "Field Tables".
use Rattle.std.specs.Prelude.{◌≡◌, ◌<◌, ◌^◌, ℕ, List, ◌∷◌, ◌++◌, Option, MatchOption, length}
use Rattle.model.specs.Tables.{Values, Pairs, letter, content, values_bytes, pairs_bytes, IsValue, AreValues, ArePairs}
use Rattle.field_table.specs.View.{Named}

-- the values of an array that can be encoded: their length fits in 4 bytes, and arrays and tables inside are at most `depth` levels deep
pub record AreValuesWithin (depth : ℕ) (vs : Values) : Type 0 where
  pub size : length (values_bytes vs) < 2 ^ 32
  pub fits : AreValues depth vs

-- the pairs of a table that can be encoded: their length fits in 4 bytes, and arrays and tables inside are at most `depth` levels deep
pub record ArePairsWithin (depth : ℕ) (ps : Pairs) : Type 0 where
  pub size : length (pairs_bytes ps) < 2 ^ 32
  pub fits : ArePairs depth ps

-- a pair that can be encoded: the name has fewer than 256 bytes, and arrays and tables are at most `depth` levels deep, the value itself included
pub record IsEntry (depth : ℕ) (e : Named) : Type 0 where
  pub short : length e.name < 256
  pub fits : IsValue depth e.value

-- a pair's encoding: the name's length in one byte, the name, the type letter, and the value after it
abbrev pub entry_bytes : Named → List ℕ
entry_bytes e = (length e.name ∷ e.name) ++ (letter e.value ∷ content e.value)

-- `GivesLength Fits bytes len`: `len` is the length of the encoding `bytes` if `Fits` holds, which says that there is one, and `None` if it doesn't
abbrev pub GivesLength : Type 0 → List ℕ → Option ℕ → Type 0
GivesLength Fits bytes len = MatchOption len (Fits → ⊥) (λ n. Fits × (n ≡ length bytes))
