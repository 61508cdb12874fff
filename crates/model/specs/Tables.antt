-- Field tables, and how they are spelled. Start with `pairs_bytes` and `IsTable`. Source:
-- AMQP 0-9-1, section 4.2.5.5, "Field Tables"; the type letters are RabbitMQ's (own profile).
use Rattle.std.specs.Prelude.{◌≡◌, ◌<◌, ◌≤◌, ◌-◌, ◌^◌, ℕ, List, [], ◌∷◌, ◌++◌, length, Bool, cond}
use Rattle.std.specs.Int.{w16, w32, w64, to_be_bytes}
use Rattle.model.specs.Words.{Text}

mutual
  -- A value in a table or an array. Each number is the unsigned one that its bytes spell, also if a client means a signed number or a float.
  pub data Value : Type 0 where
    Truth : (b : Bool) → Value
    Byte : (n : ℕ) → Value
    Short : (n : ℕ) → Value
    Long : (n : ℕ) → Value
    Long_long : (n : ℕ) → Value
    Float : (n : ℕ) → Value
    Double : (n : ℕ) → Value
    Decimal : (scale digits : ℕ) → Value
    Long_string : (t : Text) → Value
    Field_array : (vs : Values) → Value
    Timestamp : (n : ℕ) → Value
    Inner_table : (ps : Pairs) → Value
    Byte_array : (t : Text) → Value
    Void : Value

  -- The values of an array, in order.
  pub data Values : Type 0 where
    no_values : Values
    value : (v : Value) → (vs : Values) → Values

  -- The names and values of a table, in order; a name may occur twice.
  pub data Pairs : Type 0 where
    no_pairs : Pairs
    pair : (name : Text) → (v : Value) → (ps : Pairs) → Pairs

-- The letter of the value's type: t b s I l f d D S A T F x V.
abbrev pub letter : Value → ℕ
letter (Truth b) = 116
letter (Byte n) = 98
letter (Short n) = 115
letter (Long n) = 73
letter (Long_long n) = 108
letter (Float n) = 102
letter (Double n) = 100
letter (Decimal scale digits) = 68
letter (Long_string t) = 83
letter (Field_array vs) = 65
letter (Timestamp n) = 84
letter (Inner_table ps) = 70
letter (Byte_array t) = 120
letter Void = 86

-- The bytes with their length before them, in four bytes.
abbrev pub with_length : List ℕ → List ℕ
with_length body = to_be_bytes w32 (length body) ++ body

abbrev mutual
  -- The bytes after the letter: numbers are big-endian.
  pub content : Value → List ℕ
  content (Truth b) = cond b 1 0 ∷ []
  content (Byte n) = n ∷ []
  content (Short n) = to_be_bytes w16 n
  content (Long n) = to_be_bytes w32 n
  content (Long_long n) = to_be_bytes w64 n
  content (Float n) = to_be_bytes w32 n
  content (Double n) = to_be_bytes w64 n
  content (Decimal scale digits) = scale ∷ to_be_bytes w32 digits
  content (Long_string t) = with_length t
  content (Field_array vs) = with_length (values_bytes vs)
  content (Timestamp n) = to_be_bytes w64 n
  content (Inner_table ps) = with_length (pairs_bytes ps)
  content (Byte_array t) = with_length t
  content Void = []

  -- The bytes of the values: letter and content of each.
  pub values_bytes : Values → List ℕ
  values_bytes no_values = []
  values_bytes (value v vs) = letter v ∷ content v ++ values_bytes vs

  -- The bytes of the pairs: name, letter and content of each; the length of a name is before it, in one byte.
  pub pairs_bytes : Pairs → List ℕ
  pairs_bytes no_pairs = []
  pairs_bytes (pair name v ps) = (length name ∷ name) ++ (letter v ∷ content v ++ pairs_bytes ps)

abbrev mutual
  -- The value has a spelling, and arrays and tables in it, itself included, are nested at most `depth` levels deep.
  pub IsValue : ℕ → Value → Type 0
  IsValue depth (Truth b) = Unit {0}
  IsValue depth (Byte n) = n < 2 ^ 8
  IsValue depth (Short n) = n < 2 ^ 16
  IsValue depth (Long n) = n < 2 ^ 32
  IsValue depth (Long_long n) = n < 2 ^ 64
  IsValue depth (Float n) = n < 2 ^ 32
  IsValue depth (Double n) = n < 2 ^ 64
  IsValue depth (Decimal scale digits) = (scale < 2 ^ 8) × (digits < 2 ^ 32)
  IsValue depth (Long_string t) = length t < 2 ^ 32
  IsValue depth (Field_array vs) = (1 ≤ depth) × (length (values_bytes vs) < 2 ^ 32) × AreValues (depth - 1) vs
  IsValue depth (Timestamp n) = n < 2 ^ 64
  IsValue depth (Inner_table ps) = (1 ≤ depth) × (length (pairs_bytes ps) < 2 ^ 32) × ArePairs (depth - 1) ps
  IsValue depth (Byte_array t) = length t < 2 ^ 32
  IsValue depth Void = Unit {0}

  -- Each value of an array has a spelling, nested at most `depth` levels deep.
  pub AreValues : ℕ → Values → Type 0
  AreValues depth no_values = Unit {0}
  AreValues depth (value v vs) = IsValue depth v × AreValues depth vs

  -- Each value of a table has a spelling, nested at most `depth` levels deep, and the length of each name fits one byte.
  pub ArePairs : ℕ → Pairs → Type 0
  ArePairs depth no_pairs = Unit {0}
  ArePairs depth (pair name v ps) = (length name < 256) × IsValue depth v × ArePairs depth ps

-- The bytes of a table: its length and its pairs.
abbrev pub table_bytes : Pairs → List ℕ
table_bytes ps = with_length (pairs_bytes ps)

-- The table has a spelling: its length fits four bytes, and tables and arrays are nested at most 16 levels deep, the outermost included (own).
pub record HavePairsSpelling (ps : Pairs) : Type 0 where
  pub size : length (pairs_bytes ps) < 2 ^ 32
  pub fits : ArePairs 15 ps

-- The bytes are the pairs of a table that has a spelling.
pub record IsTable (bytes : List ℕ) : Type 0 where
  pub pairs : Pairs
  pub fits : HavePairsSpelling pairs
  pub spelled : bytes ≡ pairs_bytes pairs
