-- Which value or pair is at the front of bytes, and what all bytes encode. Source: AMQP 0-9-1, section 4.2.5.5, "Field Tables".
use Rattle.std.specs.Prelude.{◌≡◌, ◌<◌, ◌≤◌, ◌-◌, ℕ, List, ◌∷◌, ◌++◌, length}
use Rattle.model.specs.Words.{Text}
use Rattle.model.specs.Tables.{Value, Values, Pairs, letter, content, values_bytes, pairs_bytes, IsValue, AreValues, ArePairs}
use Rattle.std.specs.List.{AllByRecursion}
use Rattle.field_table.specs.Arguments.{IsSized}
use Rattle.field_table.specs.Leaves.{leaf_seen}
use Rattle.field_table.specs.Values.{unread_of, contents_of}
use Rattle.field_table.specs.declared.leaves.Leaf.{Leaf}
use Rattle.field_table.specs.declared.leaves.Leaf.TheVariants as leaves

-- the value `v` is at the front; arrays and tables are nested at most `depth` levels deep, `v` itself included
pub record IsFirstValue (depth : ℕ) (bytes : List ℕ) (v : Value) (rest : List ℕ) : Type 0 where
  pub fits : IsValue depth v
  pub parts : bytes ≡ letter v ∷ content v ++ rest

-- no value is at the front
abbrev pub HasNone : ℕ → List ℕ → Type 0
HasNone depth bytes = (v : Value) (rest : List ℕ) → IsFirstValue depth bytes v rest → ⊥

-- the pair of `name` and `v` is at the front; arrays and tables are nested at most `depth` levels deep, `v` itself included
pub record IsFirstPair (depth : ℕ) (bytes : List ℕ) (name : Text) (v : Value) (rest : List ℕ) : Type 0 where
  pub short : length name < 256
  pub fits : IsValue depth v
  pub parts : bytes ≡ (length name ∷ name) ++ (letter v ∷ content v ++ rest)

-- no pair is at the front
abbrev pub HasNoPair : ℕ → List ℕ → Type 0
HasNoPair depth bytes = (name : Text) (v : Value) (rest : List ℕ) → IsFirstPair depth bytes name v rest → ⊥

-- the bytes are exactly these values
pub record SpellsValues (depth : ℕ) (bytes : List ℕ) (vs : Values) : Type 0 where
  pub fits : AreValues depth vs
  pub parts : bytes ≡ values_bytes vs

-- the bytes are exactly these pairs
pub record SpellsPairs (depth : ℕ) (bytes : List ℕ) (ps : Pairs) : Type 0 where
  pub fits : ArePairs depth ps
  pub parts : bytes ≡ pairs_bytes ps

-- the bytes are the values of some array
abbrev pub HasValues : ℕ → List ℕ → Type 0
HasValues depth bytes = (vs : Values) × SpellsValues depth bytes vs

-- the bytes are the pairs of some table
abbrev pub HasPairs : ℕ → List ℕ → Type 0
HasPairs depth bytes = (ps : Pairs) × SpellsPairs depth bytes ps

-- for an array or a table: `depth` is not 0, and the content is values or pairs with at most `depth` - 1 levels inside; other leaves have no content
abbrev pub HoldsValues : ℕ → Leaf → Type 0
HoldsValues depth (leaves.Array body) = (1 ≤ depth) × HasValues (depth - 1) body.now
HoldsValues depth (leaves.Table body) = (1 ≤ depth) × HasPairs (depth - 1) body.now
HoldsValues depth _ = Unit {0}

-- the leaf is the value `v` with the content of an array or a table still as bytes, and `v` can be encoded if the arguments after its letter can
pub record Means (depth : ℕ) (leaf : Leaf) (v : Value) : Type 0 where
  pub read : leaf_seen leaf ≡ unread_of v
  pub fits : AllByRecursion IsSized (contents_of v) → IsValue depth v
