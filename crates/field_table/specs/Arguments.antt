-- Arguments of each kind, read from left to right. Source: AMQP 0-9-1, section 4.2.5, "Data Types", and its XML.
use Rattle.std.specs.Prelude.{◌*◌, ◌/◌, ◌%◌, ◌==◌, ℕ, zero, suc, ◌<◌, ◌^◌, List, [], ◌∷◌, length}
use Rattle.std.specs.Prelude.{take, drop, Bool, slice_index, nat_lt, if◌then◌else◌, Option, Some, None}
use Rattle.std.specs.Int.{Width, w16, w32, w64, byte_len, from_be_bytes}
use Rattle.model.specs.Options.{◌>>=◌}
use Rattle.model.specs.Tables.{IsTable}
use Rattle.model.specs.Grammar.{Argument, Octet, Short, Long, Long_long, Short_text, Long_text, Field_table, Bits, IsArgument}

-- the type of an argument; bits that share an octet are one argument, with their count
pub data Kind : Type 0 where
  an_octet : Kind
  a_short : Kind
  a_long : Kind
  a_long_long : Kind
  a_short_text : Kind
  a_long_text : Kind
  a_field_table : Kind
  some_bits : (count : ℕ) → Kind

-- the kind of an argument; of bits, with their count
abbrev pub kind_of : Argument → Kind
kind_of (Octet n) = an_octet
kind_of (Short n) = a_short
kind_of (Long n) = a_long
kind_of (Long_long n) = a_long_long
kind_of (Short_text t) = a_short_text
kind_of (Long_text t) = a_long_text
kind_of (Field_table pairs) = a_field_table
kind_of (Bits bs) = some_bits (length bs)

-- an argument split off the front and the bytes after it, or `None` if the argument isn't there
abbrev pub Front : Type 0
Front = Option (Argument × List ℕ)

-- a big-endian number of the given width; `None` if there are fewer bytes
abbrev pub number_at : (ℕ → Argument) → Width → List ℕ → Front
number_at made w bytes = if nat_lt (length bytes) (byte_len w) then None else Some (made (from_be_bytes w (take (byte_len w) bytes)), drop (byte_len w) bytes)

-- a text of `n` bytes; `None` if there are fewer bytes
abbrev pub text_at : (List ℕ → Argument) → ℕ → List ℕ → Front
text_at made n bytes = if nat_lt (length bytes) n then None else Some (made (take n bytes), drop n bytes)

-- a short string: its length in one byte, and that many bytes (AMQP 0-9-1, section 4.2.5.3)
abbrev pub short_text_at : List ℕ → Front
short_text_at bytes = if nat_lt (length bytes) 1 then None else text_at Short_text (slice_index bytes 0) (drop 1 bytes)

-- a long string, or the pairs of a table: the length in four bytes, and that many bytes (AMQP 0-9-1, section 4.2.5.3)
abbrev pub long_text_at : (List ℕ → Argument) → List ℕ → Front
long_text_at made bytes = if nat_lt (length bytes) 4 then None else text_at made (from_be_bytes w32 (take 4 bytes)) (drop 4 bytes)

-- 2 to the power `n`: an octet with only its lowest `n` bits set is less
abbrev pub octets : ℕ → ℕ
octets zero = 1
octets (suc n) = 2 * octets n

-- the lowest `n` bits of an octet, the lowest first
abbrev pub bits_of : ℕ → ℕ → List Bool
bits_of zero octet = []
bits_of (suc n) octet = (octet % 2 == 1) ∷ bits_of n (octet / 2)

-- an octet of `n` bits in which no other bit is set (AMQP 0-9-1, section 4.2.5.2)
abbrev pub bits_at : ℕ → List ℕ → Front
bits_at n bytes =
    if nat_lt (length bytes) 1 then None
    else if nat_lt (slice_index bytes 0) (octets n) then Some (Bits (bits_of n (slice_index bytes 0)), drop 1 bytes)
    else None

-- the argument of this kind at the front and the bytes after it, or `None` if the argument isn't there
abbrev pub argument_at : Kind → List ℕ → Front
argument_at an_octet bytes = if nat_lt (length bytes) 1 then None else Some (Octet (slice_index bytes 0), drop 1 bytes)
argument_at a_short bytes = number_at Short w16 bytes
argument_at a_long bytes = number_at Long w32 bytes
argument_at a_long_long bytes = number_at Long_long w64 bytes
argument_at a_short_text bytes = short_text_at bytes
argument_at a_long_text bytes = long_text_at Long_text bytes
argument_at a_field_table bytes = long_text_at Field_table bytes
argument_at (some_bits n) bytes = bits_at n bytes

-- the bytes are exactly arguments of these kinds
abbrev pub arguments_at : List Kind → List ℕ → Option (List Argument)
arguments_at [] bytes = if length bytes == 0 then Some [] else None
arguments_at (k ∷ ks) bytes = argument_at k bytes >>= λ x. arguments_at ks x.1 >>= λ others. Some (x.0 ∷ others)

-- an argument that can be encoded; of a table only its length in bytes counts
abbrev pub IsSized : Argument → Type 0
IsSized (Field_table pairs) = length pairs < 2 ^ 32
IsSized a = IsArgument a

-- the bytes of a table argument are the pairs of a table; other arguments are always whole
abbrev pub IsArgumentWhole : Argument → Type 0
IsArgumentWhole (Field_table pairs) = IsTable pairs
IsArgumentWhole a = Unit {0}
