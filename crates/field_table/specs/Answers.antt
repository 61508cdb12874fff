-- The results of reading and writing a table.
use Rattle.std.specs.Prelude.{◌≡◌, ℕ, List, Result, Ok, Err}
use Rattle.model.specs.Tables.{Pairs, table_bytes, HavePairsSpelling}
use Rattle.field_table.specs.declared.refusals.BadTable.{BadTable}
use Rattle.field_table.specs.declared.refusals.BadTable.TheVariants.{SyntaxError, Memory}

-- the error is right: a syntax error only for the reason `why`; an allocation failure needs no reason
abbrev pub TableRefused : BadTable → Type 0 → Type 0
TableRefused SyntaxError why = why
TableRefused Memory why = Unit {0}

-- `Found` is true of what was read, or the error is right: a syntax error only for the reason `why`
abbrev pub AnswersOr : {X : Type 0} → Result X BadTable → (X → Type 0) → Type 0 → Type 0
AnswersOr (Ok x) Found why = Found x
AnswersOr (Err e) Found why = TableRefused e why

-- the bytes are the table's encoding, and the table can be encoded
pub record SpellsTable (bytes : List ℕ) (ps : Pairs) : Type 0 where
  pub fits : HavePairsSpelling ps
  pub parts : bytes ≡ table_bytes ps

-- the result has the property `Is`, or an allocation failed
abbrev pub IsOr : {X : Type 0} → Result X BadTable → (X → Type 0) → Type 0
IsOr (Ok x) Is = Is x
IsOr (Err SyntaxError) Is = ⊥
IsOr (Err Memory) Is = Unit {0}
