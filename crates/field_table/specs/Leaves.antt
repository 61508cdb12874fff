-- Single values of tables and arrays: a type letter and arguments after it. Source: AMQP 0-9-1, section 4.2.5.5, "Field Tables".
use Rattle.std.specs.Prelude.{ℕ, List, [], ◌∷◌, length, drop, slice_index, nat_lt, ◌==◌, if◌then◌else◌, Option, Some, None}
use Rattle.model.specs.Grammar.{Argument, Octet, Short, Long, Long_long, Long_text, Bits}
use Rattle.field_table.specs.Arguments.{Kind, an_octet, a_short, a_long, a_long_long, a_long_text, some_bits, argument_at}
use Rattle.model.specs.Options.{◌>>=◌}
use Rattle.field_table.specs.declared.leaves.Leaf.{Leaf}
use Rattle.field_table.specs.declared.leaves.Leaf.TheVariants as leaves

-- a type letter and the arguments after it, in which an array or a table is still bytes
pub record Unread : Type 0 where
  pub letter : ℕ
  pub contents : List Argument

-- the value with this letter and these arguments after it
abbrev pub unread : ℕ → List Argument → Unread
unread letter contents = record { letter = letter; contents = contents }

-- a leaf as it is on the wire: its type letter and the arguments after it; an array or a table is its bytes
abbrev pub leaf_seen : Leaf → Unread
leaf_seen (leaves.Truth b) = unread 116 (Bits (b ∷ []) ∷ [])
leaf_seen (leaves.Byte n) = unread 98 (Octet n ∷ [])
leaf_seen (leaves.Short n) = unread 115 (Short n ∷ [])
leaf_seen (leaves.Long n) = unread 73 (Long n ∷ [])
leaf_seen (leaves.LongLong n) = unread 108 (Long_long n ∷ [])
leaf_seen (leaves.Float n) = unread 102 (Long n ∷ [])
leaf_seen (leaves.Double n) = unread 100 (Long_long n ∷ [])
leaf_seen (leaves.Decimal scale digits) = unread 68 (Octet scale ∷ Long digits ∷ [])
leaf_seen (leaves.Text t) = unread 83 (Long_text t.now ∷ [])
leaf_seen (leaves.Array body) = unread 65 (Long_text body.now ∷ [])
leaf_seen (leaves.Timestamp n) = unread 84 (Long_long n ∷ [])
leaf_seen (leaves.Table body) = unread 70 (Long_text body.now ∷ [])
leaf_seen (leaves.Bytes t) = unread 120 (Long_text t.now ∷ [])
leaf_seen leaves.Void = unread 86 []

-- the kinds of the arguments after a type letter, or `None` if the letter is unknown
abbrev pub kinds_behind : ℕ → Option (List Kind)
kinds_behind letter =
    if letter == 116 then Some (some_bits 1 ∷ [])
    else if letter == 98 then Some (an_octet ∷ [])
    else if letter == 115 then Some (a_short ∷ [])
    else if letter == 73 then Some (a_long ∷ [])
    else if letter == 108 then Some (a_long_long ∷ [])
    else if letter == 102 then Some (a_long ∷ [])
    else if letter == 100 then Some (a_long_long ∷ [])
    else if letter == 68 then Some (an_octet ∷ a_long ∷ [])
    else if letter == 83 then Some (a_long_text ∷ [])
    else if letter == 65 then Some (a_long_text ∷ [])
    else if letter == 84 then Some (a_long_long ∷ [])
    else if letter == 70 then Some (a_long_text ∷ [])
    else if letter == 120 then Some (a_long_text ∷ [])
    else if letter == 86 then Some []
    else None

-- the arguments of the kinds `ks` at the front of `bytes`, and the bytes after them; `None` if these arguments aren't there
abbrev pub front_at : List Kind → List ℕ → Option (List Argument × List ℕ)
front_at [] bytes = Some ([], bytes)
front_at (k ∷ ks) bytes = argument_at k bytes >>= λ x. front_at ks x.1 >>= λ y. Some (x.0 ∷ y.0, y.1)

-- the value after a type letter, and the bytes after it
abbrev pub behind : ℕ → List ℕ → Option (Unread × List ℕ)
behind letter bytes = kinds_behind letter >>= λ ks. front_at ks bytes >>= λ y. Some (unread letter y.0, y.1)

-- the value at the front, type letter first, and the bytes after it
abbrev pub read_leaf : List ℕ → Option (Unread × List ℕ)
read_leaf bytes = if nat_lt (length bytes) 1 then None else behind (slice_index bytes 0) (drop 1 bytes)
