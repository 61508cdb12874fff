-- The encoding of a method's arguments. Source: AMQP 0-9-1, section 4.2.5, "Data Types".
use Rattle.std.specs.Prelude.{ℕ, List, ◌++◌}
use Rattle.model.specs.Headers.{value_of, IsValue}
use Rattle.methods.specs.declared.pieces.Pieces.{Pieces}
use Rattle.methods.specs.Pieces.{piece_seen}

-- the encodings of the arguments, one after another
abbrev pub pieces_bytes : Pieces → List ℕ
pieces_bytes p = value_of (piece_seen p.first) ++ (value_of (piece_seen p.second)
    ++ (value_of (piece_seen p.third) ++ (value_of (piece_seen p.fourth) ++ value_of (piece_seen p.fifth))))

-- each argument can be encoded
pub record AreSpelled (p : Pieces) : Type 0 where
  pub first : IsValue (piece_seen p.first)
  pub second : IsValue (piece_seen p.second)
  pub third : IsValue (piece_seen p.third)
  pub fourth : IsValue (piece_seen p.fourth)
  pub fifth : IsValue (piece_seen p.fifth)
