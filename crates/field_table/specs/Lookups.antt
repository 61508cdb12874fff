-- Fields by their names. Source: AMQP 0-9-1, section 4.2.5.5, "Field Tables".
use Rattle.std.specs.Prelude.{◌≡◌, ℕ, List}
use Rattle.model.specs.Words.{Text}
use Rattle.model.specs.Tables.{Pairs, pairs_bytes, HavePairsSpelling}
use Rattle.model.specs.Deaths.{IsFieldOf}

-- the bytes are the pairs of a table that can be encoded, and one of its fields is named `name`
pub record HasField (name : Text) (bytes : List ℕ) : Type 0 where
  pub pairs : Pairs
  pub fits : HavePairsSpelling pairs
  pub spelled : bytes ≡ pairs_bytes pairs
  pub field : IsFieldOf pairs name
