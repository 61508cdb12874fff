-- What `Piece` and `Pieces` mean. Source: AMQP 0-9-1, section 4.2.5, "Data Types".
use Rattle.std.specs.Prelude.{List, [], ◌∷◌, Option, Some, None}
use Rattle.model.specs.Grammar.{Argument, Octet, Short, Long, Long_long, Short_text, Long_text, Field_table, Bits}
use Rattle.methods.specs.declared.pieces.Piece.{Piece}
use Rattle.methods.specs.declared.pieces.Piece.TheVariants as pieces
use Rattle.methods.specs.declared.pieces.Pieces.{Pieces}

-- the argument that the piece holds, or `None` for `Nothing`
abbrev pub piece_seen : Piece → Option Argument
piece_seen pieces.Nothing = None
piece_seen (pieces.Octet n) = Some (Octet n)
piece_seen (pieces.Short n) = Some (Short n)
piece_seen (pieces.Long n) = Some (Long n)
piece_seen (pieces.LongLong n) = Some (Long_long n)
piece_seen (pieces.ShortText t) = Some (Short_text t.now)
piece_seen (pieces.LongText t) = Some (Long_text t.now)
piece_seen (pieces.Table t) = Some (Field_table t.now)
piece_seen (pieces.Bit b) = Some (Bits (b ∷ []))
piece_seen (pieces.TwoBits a b) = Some (Bits (a ∷ b ∷ []))
piece_seen (pieces.FourBits a b c d) = Some (Bits (a ∷ b ∷ c ∷ d ∷ []))
piece_seen (pieces.FiveBits a b c d e) = Some (Bits (a ∷ b ∷ c ∷ d ∷ e ∷ []))

-- a list of arguments with one more in front, if there is one
abbrev pub onto_arguments : Option Argument → List Argument → List Argument
onto_arguments None others = others
onto_arguments (Some a) others = a ∷ others

-- the arguments of these pieces, in order
abbrev pub given : Pieces → List Argument
given p = onto_arguments (piece_seen p.first) (onto_arguments (piece_seen p.second)
    (onto_arguments (piece_seen p.third) (onto_arguments (piece_seen p.fourth) (onto_arguments (piece_seen p.fifth) []))))
