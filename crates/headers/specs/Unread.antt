-- Properties that were read but not copied: their texts and their headers are still bytes of the payload.
use Rattle.std.specs.Prelude.{◌≡◌, ℕ, List, [], ◌∷◌, ◌++◌, Option, Some, None, Result, Ok, Err, ⊤}
use Rattle.std.specs.Borrow.{Bor}
use Rattle.model.specs.Tables.{IsTable}
use Rattle.model.specs.Grammar.{Argument, Short_text, Field_table}
use Rattle.model.specs.Headers.{octet_of, time_of, properties_of}
use Rattle.model.specs.declared.contents.Fields.{Fields as Properties}
use Rattle.headers.specs.Writing.{front_of, back_of}
use Rattle.headers.specs.declared.contents.BadHeader.{BadHeader}
use Rattle.headers.specs.declared.contents.BadHeader.TheVariants.{FrameError, SyntaxError, Memory}
use Rattle.headers.specs.declared.optional.Front.{Front}
use Rattle.headers.specs.declared.optional.Back.{Back}
use Rattle.headers.specs.declared.optional.Parts.{Parts}

-- a text that is present, as an argument
abbrev pub text_in : Option (Bor (List ℕ)) → Option Argument
text_in None = None
text_in (Some t) = Some (Short_text t.now)

-- the bytes of a table that is present, as an argument; they need not be a table's pairs
abbrev pub table_in : Option (Bor (List ℕ)) → Option Argument
table_in None = None
table_in (Some t) = Some (Field_table t.now)

-- the first seven properties in the order of their flags
abbrev pub front_in : Front → List (Option Argument)
front_in f =
    text_in f.content_type ∷ text_in f.content_encoding ∷ table_in f.headers ∷ octet_of f.delivery_mode ∷ octet_of f.priority
    ∷ text_in f.correlation_id ∷ text_in f.reply_to ∷ []

-- the last seven properties in the order of their flags
abbrev pub back_in : Back → List (Option Argument)
back_in b =
    text_in b.expiration ∷ text_in b.message_id ∷ time_of b.timestamp ∷ text_in b.kind ∷ text_in b.user_id ∷ text_in b.app_id
    ∷ text_in b.reserved ∷ []

-- all fourteen properties in the order of their flags
abbrev pub parts_in : Parts → List (Option Argument)
parts_in p = front_in p.front ++ back_in p.back

-- ---- the headers' table

-- the headers are the pairs of a table, or absent
abbrev pub HeadersAreWhole : Option (List ℕ) → Type 0
HeadersAreWhole None = ⊤
HeadersAreWhole (Some pairs) = IsTable pairs

-- the bytes of a table that is present
abbrev pub pairs_in : Option (Bor (List ℕ)) → Option (List ℕ)
pairs_in None = None
pairs_in (Some t) = Some t.now

-- ---- the result

-- the first seven properties are those of `front`
abbrev pub CopiesFront : Front → Properties → Type 0
CopiesFront front p = front_of p ≡ front_in front

-- the last seven properties are those of `back`, and the first seven have not changed
abbrev pub CopiesBack : Back → Properties → Properties → Type 0
CopiesBack back before after = (back_of after ≡ back_in back) × (front_of after ≡ front_of before)

-- the pairs of the headers, the third property
abbrev pub headers_in : List (Option Argument) → Option (List ℕ)
headers_in (a ∷ b ∷ Some (Field_table pairs) ∷ os) = Some pairs
headers_in _ = None

-- no properties were read, or their headers are no table
abbrev pub LacksHeaders : Option (List (Option Argument)) → Type 0
LacksHeaders read = (given : List (Option Argument)) → read ≡ Some given → HeadersAreWhole (headers_in given) → ⊥

-- the error is right: `Memory` always is, `SyntaxError` is if no properties were read or their headers are no table, and `FrameError` never is
abbrev pub WantsHeaders : Option (List (Option Argument)) → BadHeader → Type 0
WantsHeaders read FrameError = ⊥
WantsHeaders read SyntaxError = LacksHeaders read
WantsHeaders read Memory = ⊤

-- the result has the properties that were read, and their headers are a table; or the error is correct
abbrev pub GivesProperties : Result Properties BadHeader → Option (List (Option Argument)) → Type 0
GivesProperties (Ok p) read = (read ≡ Some (properties_of p)) × HeadersAreWhole p.headers
GivesProperties (Err e) read = WantsHeaders read e
