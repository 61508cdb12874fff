-- Files by name, and what a read of one returns (own).
use Rattle.std.specs.Prelude.{◌≡◌, ◌<◌, ◌≤◌, ℕ, Bool, true, false, Option, Some, None, Result, MatchResult, length, ⊤}
use Rattle.std.specs.Global.{Vec}
use Rattle.model.specs.Words.{Text}
use Rattle.server.specs.declared.storage.Unread.{Unread}
use Rattle.server.specs.declared.storage.Unread.TheVariants as unread

-- what is known about a file: nothing, that it does not exist, or its bytes
pub data Known : Type 0 where
  Unknown : Known
  Absent : Known
  Holds : (text : Text) → Known

-- what is known about files has not changed
abbrev pub AreKept : (Text → Known) → (Text → Known) → Type 0
AreKept before after = (name : Text) → after name ≡ before name

-- what is known about files has not changed, except about the file `name`
abbrev pub AreKeptBut : Text → (Text → Known) → (Text → Known) → Type 0
AreKeptBut name before after = (other : Text) → (other ≡ name → ⊥) → after other ≡ before other

-- the length of the longest file that is read, in bytes
abbrev pub most_bytes : ℕ
most_bytes = 16777216

-- the file may have this text, as far as is known
abbrev pub HasText : Known → Text → Type 0
HasText Unknown text = ⊤
HasText Absent text = ⊥
HasText (Holds known) text = text ≡ known

-- the file may be longer than any that is read
abbrev pub IsTooLong : Known → Type 0
IsTooLong Unknown = ⊤
IsTooLong Absent = ⊥
IsTooLong (Holds known) = most_bytes < length known

-- the file does not exist, or may be unreadable
abbrev pub IsUnreadable : Known → Type 0
IsUnreadable (Holds known) = ⊥
IsUnreadable other = ⊤

-- A read returns the whole text of the file, which is no longer than `most_bytes`.
pub record IsFileRead (known : Known) (text : Text) : Type 0 where
  pub whole : HasText known text
  pub short : length text ≤ most_bytes

-- as far as is known, the file may have a text other than `text`
abbrev pub HasOther : Known → Text → Type 0
HasOther Unknown text = ⊤
HasOther Absent text = ⊥
HasOther (Holds known) text = text ≡ known → ⊥

-- whether the file has this text; if it has, the text is no longer than `most_bytes`
abbrev pub ReturnsSame : Known → Text → Bool → Type 0
ReturnsSame known text true = IsFileRead known text
ReturnsSame known text false = HasOther known text

-- `same` is whether the rest of a reader is `text`, if the rest is known
abbrev pub ReturnsSameRest : Option Text → Text → Bool → Type 0
ReturnsSameRest None text same = ⊤
ReturnsSameRest (Some left) text true = text ≡ left
ReturnsSameRest (Some left) text false = text ≡ left → ⊥

-- why a file could not be read; an allocation failure promises nothing
abbrev pub IsUnread : Known → Unread → Type 0
IsUnread known unread.Failed = IsUnreadable known
IsUnread known unread.NoDescriptor = IsUnreadable known
IsUnread known unread.TooLong = IsTooLong known
IsUnread known unread.Memory = ⊤

-- the whole text of the file, or why it could not be read
abbrev pub GivesBytes : Known → Result (Vec ℕ) Unread → Type 0
GivesBytes known result = MatchResult result (λ bytes. IsFileRead known bytes.items) (λ why. IsUnread known why)
